-- A tree that looks at no value of a set of names, and a format that looks at none.
use Rattle.std.specs.Prelude.{◌≡◌, Bool, true, false, List, [], ◌∷◌, ◌⊎◌, ℕ, ◌≤◌}
use Rattle.reading.specs.Tree.{Tree, done, refuse, ahead, here, read, span, scan}
use Rattle.reading.specs.Run.{Entry, end, accepted}
use Rattle.reading.specs.Frame.{Format, behind, parse}

-- after an element with a name of the set N the tree goes on alike, whatever its value; spans have other names
abbrev pub Blind : (ℕ → Bool) → {A : Type 0} → Tree A → Type 0
Blind N (done a) = Unit {0}
Blind N (refuse n) = Unit {0}
Blind N (ahead n w) = Unit {0}
Blind N (here k) = (p : ℕ) → Blind N (k p)
Blind N (read q w k) = (N q.name ≡ true → (u v : ℕ) → k u ≡ k v) × ((v : ℕ) → Blind N (k v))
Blind N (span q w t) = (N q.name ≡ false) × Blind N t
Blind N (scan q s k) = (N q.name ≡ false) × ((v : List ℕ) → Blind N (k v))

-- there is such a record in the list
abbrev pub Some : (Entry → Type 0) → List Entry → Type 0
Some P [] = ⊥
Some P (e ∷ es) = P e ⊎ Some P es

-- a record with another name that holds the bits from one up to another
pub record Other (N : ℕ → Bool) (first past : ℕ) (e : Entry) : Type 0 where
  pub name : N e.field.name ≡ false
  pub from : e.field.first ≤ first
  pub upto : past ≤ end e.field

-- a format that looks at none of the names: not in its header, not in its body, and not in its tail, where auxbits are a span and auxdatae and auxdatal are looked
-- at. The bits that are looked at ahead in the header are those of a record with another name, in every accepted reading
pub record BlindTo (N : ℕ → Bool) {H A : Type 0} (F : Format H A) : Type 0 where
  pub opening : Blind N F.opening
  pub rest : (h : H) → Blind N (F.rest h)
  pub body : (h : H) → Blind N (F.body h)
  pub auxbits : N F.names.auxbits ≡ false
  pub auxdatae : N F.names.auxdatae ≡ false
  pub auxdatal : N F.names.auxdatal ≡ false
  pub look : (b : List ℕ) (a : A) → (parse F b).result ≡ accepted a → Some (Other N F.look.first (behind F.look)) (parse F b).records

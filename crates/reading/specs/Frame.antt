-- A whole frame: a header that announces its size, a body, and the tail: auxdata and errorcheck
-- (A/52 clauses 5.3.4, 5.3.5, E2.2.5, E2.2.6; TS 102 366 clauses 4.3.4, 4.3.5, E.1.2.5, E.1.2.6).
use Rattle.std.specs.Prelude.{◌≡◌, Bool, List, [], ℕ, ◌+◌, ◌*◌, ◌-◌, leb, eqb, negsuc, length}
use Rattle.std.proofs.Math.Bool.{cond}
use Rattle.bits.specs.Bits.{bits_at}
use Rattle.reading.specs.Tree.{Part, Tree, done, refuse, ahead, here, read, span, ◌>>=◌}
use Rattle.reading.specs.Run.{accepted, refused, Outcome, out, after, run}

-- the numbers of the tail's names
pub record TailNames : Type 0 where
  pub auxbits : ℕ
  pub auxdatal : ℕ
  pub auxdatae : ℕ
  -- encinfo, or crcrsv of AC-3
  pub reserved : ℕ
  pub crc2 : ℕ

-- a record outside the blocks, with no index
abbrev pub plain : ℕ → Part
plain n = record { name = n; block = negsuc 0; index = negsuc 0 }

-- bits that are looked at ahead, which of their values are good, and the number of the refusal of the others
pub record Look : Type 0 where
  pub first : ℕ
  pub width : ℕ
  pub good : ℕ → Bool
  pub number : ℕ

-- the first bit behind them
abbrev pub behind : Look → ℕ
behind k = k.first + k.width

-- a format whose header gives H and whose body gives A
pub record Format (H A : Type 0) : Type 0 where
  pub names : TailNames
  -- the header lies in the first 6 bytes: its opening; then some bits are looked at ahead; then its rest
  pub opening : Tree H
  pub look : Look
  pub rest : H → Tree H
  -- how many bytes the frame has, by its header
  pub bytes : H → ℕ
  pub body : H → Tree A
  -- how many bytes a buffer announces, whatever else it holds
  pub announced : List ℕ → ℕ

-- a refusal at the bit m, of a reading that has come no further
abbrev pub refuse_at : {A : Type 0} → ℕ → ℕ → Tree A
refuse_at n m = here λ p. ahead n (m - p)

module _ {H A : Type 0} (F : Format H A) where
  -- the header, where the number v is seen ahead: a bad one is refused behind its bits, and only the opening is recorded
  unfoldable pub header_by : ℕ → Tree H
  header_by v = F.opening >>= (λ h. cond (F.look.good v) (F.rest h) (refuse_at F.look.number (behind F.look)))

  -- the number that a buffer shows there
  abbrev pub seen : List ℕ → ℕ
  seen b = bits_at b F.look.first F.look.width

  -- the header of a buffer
  abbrev pub headed : List ℕ → Outcome H
  headed b = run (header_by (seen b)) b 0 48

-- the header's size is the one that the buffer announces
abbrev pub Announces : {H A : Type 0} → Format H A → Type 0
Announces {H} F = (b : List ℕ) (h : H) → (headed F b).result ≡ accepted h → F.bytes h ≡ F.announced b

-- where auxdatae stands in a frame that ends at the bit l
abbrev pub auxdatae_at : ℕ → ℕ
auxdatae_at l = l - 18

module _ (names : TailNames) where
  unfoldable pub ending : {A : Type 0} → A → Tree A
  ending a =
      read (plain names.auxdatae) 1 λ _.
      read (plain names.reserved) 1 λ _.
      read (plain names.crc2) 16 λ _.
      done a

  -- in a frame that ends at the bit l the value v of auxdatae is looked at ahead.
  -- auxbits reach to auxdatae, or to the 14 bits of auxdatal before it; they hold the auxdatal bits of data.
  unfoldable pub tail : {A : Type 0} → ℕ → ℕ → A → Tree A
  unfolding ending
  tail v l a =
      here λ p.
      cond (leb (p + 18) l)
      (cond (eqb v 1)
      (cond (leb (p + 32) l)
      (span (plain names.auxbits) (l - 32 - p)
      (read (plain names.auxdatal) 14 λ n.
      cond (leb n (l - 32 - p)) (ending a) (ahead 32 1)))
      (ahead 31 (auxdatae_at l - p + 1)))
      (span (plain names.auxbits) (auxdatae_at l - p) (ending a)))
      (refuse 30)

  unfoldable pub finish : {A : Type 0} → List ℕ → ℕ → A → ℕ → Outcome A
  finish b l a p = run (tail (bits_at b (auxdatae_at l) 1) l a) b p l

module _ {H A : Type 0} (F : Format H A) where
  -- what follows the header
  unfoldable pub framed : List ℕ → H → ℕ → Outcome A
  framed b h p = after (run (F.body h) b p (8 * F.bytes h)) (finish F.names b (8 * F.bytes h))

  -- a buffer below 6 bytes is refusal 1, one that is shorter than its frame is refusal 4
  unfoldable pub sized : List ℕ → H → ℕ → Outcome A
  sized b h p = let r = framed b h p in cond (leb (F.bytes h) (length b)) r (out (refused 4) p [])

  unfoldable pub parse : List ℕ → Outcome A
  parse b = let r = after (headed F b) (sized b) in cond (leb 6 (length b)) r (out (refused 1) 0 [])

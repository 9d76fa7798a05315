-- A definition of a reading is a tree: what is read next, given what was read so far.
use Rattle.std.specs.Prelude.{List, ℕ, ℤ}

-- what a record says besides its place and value: its name's number, its block and its index, -1 for none
pub record Part : Type 0 where
  pub name : ℕ
  pub block : ℤ
  pub index : ℤ

-- what is read inside a span: bits that are looked at and not recorded
pub data Skim (A : Type 0) : Type 0 where
  stop : A → Skim A
  -- a refusal, with its number
  fail : ℕ → Skim A
  -- the present bit place
  at : (ℕ → Skim A) → Skim A
  -- so many bits
  take : ℕ → (ℕ → Skim A) → Skim A

pub data Tree (A : Type 0) : Type 0 where
  done : A → Tree A
  -- a refusal, with its number
  refuse : ℕ → Tree A
  -- a refusal, with its number, so many bits ahead of the present place
  ahead : ℕ → ℕ → Tree A
  -- the present bit place
  here : (ℕ → Tree A) → Tree A
  -- an element of so many bits, recorded with its value
  read : Part → ℕ → (ℕ → Tree A) → Tree A
  -- so many bits, recorded and not looked at
  span : Part → ℕ → Tree A → Tree A
  -- a span that is walked inside, and recorded when it closes; the walk tells some numbers
  scan : Part → Skim (List ℕ) → (List ℕ → Tree A) → Tree A

infixl 40 ◌>>=◌
infixl 40 ◌>>◌
-- one tree after another
unfoldable pub ◌>>=◌ : {A B : Type 0} → Tree A → (A → Tree B) → Tree B
done a >>= f = f a
refuse n >>= f = refuse n
ahead n w >>= f = ahead n w
here k >>= f = here (λ p. k p >>= f)
read q w k >>= f = read q w (λ v. k v >>= f)
span q w t >>= f = span q w (t >>= f)
scan q s k >>= f = scan q s (λ v. k v >>= f)

abbrev pub ◌>>◌ : {A B : Type 0} → Tree A → Tree B → Tree B
t >> u = t >>= (λ _. u)

-- the same inside a span
infixl 40 ◌>>-◌
unfoldable pub ◌>>-◌ : {A B : Type 0} → Skim A → (A → Skim B) → Skim B
stop a >>- f = f a
fail n >>- f = fail n
at k >>- f = at (λ p. k p >>- f)
take w k >>- f = take w (λ v. k v >>- f)

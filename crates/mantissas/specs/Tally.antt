-- What the code counts of the pointers of a range, in one pass. proofs/TallyLaws.antt has what it comes to.
use Rattle.std.specs.Prelude.{cond, List, ℕ, zero, suc, ◌+◌, ◌*◌, ◌/◌, ◌%◌, eqb, get_or}
use Rattle.tables.specs.Small.{bap_bits}
use Rattle.slots.specs.Slots.{pointer}
use Rattle.mantissas.specs.Mantissas.{opens_of}
use Rattle.mantissas.specs.declared.Groups.{Groups}
use Rattle.mantissas.specs.declared.tally.Tally.{Tally}

-- the bits of the mantissas of n bins that stand alone, from the bin `bin` on
unfoldable pub alone_of : List ℕ → ℕ → ℕ → ℕ → ℕ
alone_of baps slot bin zero = 0
alone_of baps slot bin (suc n) = get_or bap_bits (pointer baps slot bin) 0 + alone_of baps slot (suc bin) n

-- how many of n bins have the pointer b
unfoldable pub count_of : ℕ → List ℕ → ℕ → ℕ → ℕ → ℕ
count_of b baps slot bin zero = 0
count_of b baps slot bin (suc n) = cond (eqb (pointer baps slot bin) b) 1 0 + count_of b baps slot (suc bin) n

abbrev pub tally_of : List ℕ → ℕ → ℕ → ℕ → Tally
tally_of baps slot bin n =
    record { alone = alone_of baps slot bin n; n1 = count_of 1 baps slot bin n; n2 = count_of 2 baps slot bin n; n4 = count_of 4 baps slot bin n }

-- a tally in one number, with a field of 16 bits for each part; what a pointer adds to it; and the fields again
abbrev pub packed : Tally → ℕ
packed t = t.alone + 65536 * (t.n1 + 65536 * (t.n2 + 65536 * t.n4))

unfoldable pub share_of : ℕ → ℕ
share_of bap =
    packed (record { alone = get_or bap_bits bap 0; n1 = cond (eqb bap 1) 1 0; n2 = cond (eqb bap 2) 1 0; n4 = cond (eqb bap 4) 1 0 })

abbrev pub fields_of : ℕ → Tally
fields_of x =
    record { alone = x % 65536; n1 = x / 65536 % 65536; n2 = x / 65536 / 65536 % 65536; n4 = x / 65536 / 65536 / 65536 }

-- how many of n mantissas open a group of `size`, where `count` of the group at hand have passed
unfoldable pub opened_of : ℕ → ℕ → ℕ → ℕ
opened_of size count zero = 0
opened_of size count (suc n) = opens_of count 1 + opened_of size ((count + 1) % size) n

-- how many of the group at hand have passed then
unfoldable pub turned_of : ℕ → ℕ → ℕ → ℕ
turned_of size count zero = count
turned_of size count (suc n) = turned_of size ((count + 1) % size) n

-- all bits of such mantissas, and the counts of groups after them
unfoldable pub spent_of : Groups → Tally → ℕ
spent_of g t = t.alone + 5 * opened_of 3 g.g1 t.n1 + 7 * opened_of 3 g.g2 t.n2 + 7 * opened_of 2 g.g4 t.n4

unfoldable pub left_of : Groups → Tally → Groups
left_of g t = record { g1 = turned_of 3 g.g1 t.n1; g2 = turned_of 3 g.g2 t.n2; g4 = turned_of 2 g.g4 t.n4 }

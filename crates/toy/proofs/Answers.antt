-- What the rows come to is what a caller sees. Assumes nothing.
use Prim.Native.Nat.{ℕ, ◌-◌}
use mathlib.Core.Bool.{Bool, true, false, cond}
use mathlib.Core.Path.{◌≡◌, refl, ap, ◌∙◌}
use mathlib.Core.List.{List}
use native.Mathlib.Omega.{arith}
use lib.ListN.{get_or, replicate, get_or-replicate, length-replicate}
use Rattle.reading.specs.Run.{accepted, refused, run}
use Rattle.reading.specs.Room.{Room, cut, size, got, into, exec}
use Rattle.reading.proofs.Rooms.{exec-is}
use Rattle.syntax.specs.Records.{outcome}
use Rattle.std.specs.Prelude.{Ok, Err}
use Rattle.syntax.specs.Cursors.{Progress}
use Rattle.slots.specs.Held.{Held}
use Rattle.cells.specs.Cells.{State}
use Rattle.rows.specs.Syntax.{meaning}
use Rattle.toy.specs.Toy.{frame}
use Rattle.toy.specs.Answer.{plain, shown, answer, limit_of, start, parsed}

shown-outcome : (r : Progress) (st : State) (m : Room) → answer r m ≡ shown (outcome r st m)
shown-outcome (Ok c) st m = refl
shown-outcome (Err e) st m = refl

pub answered : (s : List ℕ) (l : ℕ) (m : Room) (c : Progress) (st : State) (mu : Room) → l ≡ limit_of s → outcome c st mu ≡ exec s l (meaning frame start) 0 0 m → answer c mu ≡ parsed s m
answered s l m c st mu el e =
    let z : size m - 0 ≡ size m = omega arith in
    shown-outcome c st mu ∙ ap shown (e ∙ exec-is s l (meaning frame start) 0 0 m ∙ ap (λ (n : ℕ). into 0 m (cut n (run (meaning frame start) s 0 l))) z)
    ∙ ap (λ (l : ℕ). shown (into 0 m (cut (size m) (run (meaning frame start) s 0 l)))) el

pub held_start : Held (replicate 1792 0)
held_start = record { size = length-replicate {A = ℕ} 1792 0; low = λ k h. let z : get_or {A = ℕ} (replicate 1792 0) k 0 ≡ 0 = get_or-replicate {A = ℕ} 1792 k 0 0 (omega arith) in omega arith }

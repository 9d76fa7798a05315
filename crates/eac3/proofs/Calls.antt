-- What an entry tells, from what is told of a frame of at most so many bytes. Assumes nothing.
use mathlib.Core.Path.{◌≡◌, ap, subst, ◌∙◌}
use mathlib.Core.List.{List}
use Prim.Native.Nat.{ℕ, ◌≤◌, ◌<◌}
use native.Mathlib.Omega.{arith}
use Rattle.bits.specs.Bits.{bits_at}
use Rattle.bits.proofs.BitLaws.{bits_at-lt}
use Rattle.reading.specs.Run.{Outcome}
use Rattle.reading.specs.Frame.{Format, parse}
use Rattle.reading.specs.Room.{Room, size, cut, into}
use Rattle.short_frames.specs.ShortFrames.{up_to}
use Rattle.short_frames.proofs.ShortFrames.{parse-alike}
use Rattle.cells.specs.Cells.{State}
use Rattle.annex.specs.Frame.{announced_by, eac3}
use Rattle.annex.proofs.Header.{tells}
use Rattle.answer.specs.Answer.{answer_of, number_of, place_of, count_of}
use Rattle.answer.specs.declared.Answer.{Answer}
use Rattle.answer.proofs.Laws.{number_by, place-by, count_by}
use Rattle.frame.specs.Parts.{ReadBy}
use Rattle.eac3.specs.Called.{answered_by, CalledBy, Called, SettopCalled}

module _ (s : List ℕ) (m : Room) where
  called : (F : Format State State) {a : Answer} {mu : Room} → a ≡ answer_of (answered_by F s m) → mu ≡ (answered_by F s m).left → CalledBy F s m a mu
  unfolding answer_of
  called F {a} {mu} e l =
      let o = answered_by F s m in
      record {
        answer = e;
        number = ap number_of e ∙ number_by o.result o.place o.count;
        place = λ k f. ap place_of e ∙ place-by o.result o.place o.count k f;
        count = ap count_of e ∙ count_by o.result o.place o.count;
        left = l;
      }

  -- frmsiz announces no frame above 4,096 bytes
  full : (g : ℕ) → 4096 ≤ g → parse (up_to g eac3) s ≡ parse eac3 s
  unfolding eac3
  full g i = let z : bits_at s 21 11 < 2048 = bits_at-lt s 21 11 in let h : announced_by s ≤ g = omega arith in parse-alike g eac3 tells s h

  pub full-called : (g : ℕ) (a : Answer) (mu : Room) → ReadBy (up_to g eac3) s m a mu → 4096 ≤ g → Called s m a mu
  full-called g a mu c i =
      let e = full g i in
      called eac3 (c.answer ∙ ap (λ (o : Outcome State). answer_of (into 0 m (cut (size m) o))) e) (c.left ∙ ap (λ (o : Outcome State). (into 0 m (cut (size m) o)).left) e)

  pub settop-called : (g : ℕ) (a : Answer) (mu : Room) → ReadBy (up_to g eac3) s m a mu → g ≡ 1536 → SettopCalled s m a mu
  settop-called g a mu c e = let d = subst (λ n. ReadBy (up_to n eac3) s m a mu) e c in called (up_to 1536 eac3) d.answer d.left

-- Laws of one tree after another. Assumes nothing.
use mathlib.Core.Path.{◌≡◌, refl, ap, fun_ext}
use Rattle.reading.specs.Tree.{Tree, done, refuse, ahead, here, read, span, scan, ◌>>=◌}

pub bind_done : {A B : Type 0} (a : A) (f : A → Tree B) → (done a >>= f) ≡ f a
unfolding ◌>>=◌
bind_done a f = refl

pub bind-right : {A : Type 0} (t : Tree A) → (t >>= done) ≡ t
unfolding ◌>>=◌
bind-right (done a) = refl
bind-right (refuse n) = refl
bind-right (ahead n w) = refl
bind-right (here k) = ap here (fun_ext (λ p. bind-right (k p)))
bind-right (read q w k) = ap (read q w) (fun_ext (λ v. bind-right (k v)))
bind-right (span q w t) = ap (span q w) (bind-right t)
bind-right (scan q s k) = ap (scan q s) (fun_ext (λ v. bind-right (k v)))

pub bind_assoc : {A B C : Type 0} (t : Tree A) (f : A → Tree B) (g : B → Tree C) → ((t >>= f) >>= g) ≡ (t >>= (λ a. f a >>= g))
unfolding ◌>>=◌
bind_assoc (done a) f g = refl
bind_assoc (refuse n) f g = refl
bind_assoc (ahead n w) f g = refl
bind_assoc (here k) f g = ap here (fun_ext (λ p. bind_assoc (k p) f g))
bind_assoc (read q w k) f g = ap (read q w) (fun_ext (λ v. bind_assoc (k v) f g))
bind_assoc (span q w t) f g = ap (span q w) (bind_assoc t f g)
bind_assoc (scan q s k) f g = ap (scan q s) (fun_ext (λ v. bind_assoc (k v) f g))

-- What is left of a list from a place on. Assumes nothing.
use Rattle.std.proofs.Common.{◌≡◌, ℕ, zero, suc, ◌+◌, List, [], ◌∷◌, drop, Some, None, refl, add-one}
use Rattle.std.specs.List.{slice_get}
use Rattle.std.proofs.lemmas.Option.{slice_get_within}
use Rattle.queue.proofs.Rings.{length_around}

-- where an element is there, it is the first
pub left_more : {A : Type 0} (xs : List A) (k : ℕ) (x : A) → slice_get xs k ≡ Some x → drop k xs ≡ x ∷ drop (k + 1) xs
left_more [] k x e = cc
left_more (y ∷ xs) zero x e = cc
left_more (y ∷ xs) (suc k) x e = rw add-one (rw add-one at (left_more xs k x e))

-- where none is there, nothing is left
pub left_none : {A : Type 0} (xs : List A) (k : ℕ) → slice_get xs k ≡ None → drop k xs ≡ []
left_none [] zero e = refl
left_none [] (suc k) e = refl
left_none (y ∷ xs) zero e = cc
left_none (y ∷ xs) (suc k) e = left_none xs k e

-- what a step of an iterator over a queue wants
pub ruleset stepping = (left_more, left_none, slice_get_within, length_around)

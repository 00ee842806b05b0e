-- What from_fn gives of a function that calls leave as it was. Assumes nothing.
use Rattle.std.proofs.Common.{◌≡◌, ℕ, zero, suc, ◌+◌, ◌<◌, ◌≤◌, List, Some, sym, refl, ◌∙◌, subst, inl, inr, arith}
use Rattle.std.specs.List.{slice_get}
use Rattle.std.specs.Fn.{Called, Mut}
use mathlib.Core.Logic.{◌↔◌}
use Rattle.std.specs.Array.{index_steps, IsFromFnResultFrom, IsFromFnResult}
use Rattle.std.specs.Iterator.{CallableAtEachTurn}
use Rattle.std.proofs.lemmas.Fn.{serves_by}
use Rattle.std.proofs.lemmas.Option.{get_or_from_slice_get, slice_get_within}
use Rattle.std.proofs.lemmas.Bool.{cases_eq}
use Rattle.table.specs.declared.row.Row.{Row}
use Rattle.table.specs.Rows.{Filled}

module _ {F X : Type 0} (g : Mut F (ℕ × Unit {0}) X) (outcome : (f : F) (a : ℕ × Unit {0}) (x : X) → g.post f a x ↔ ((q : F) × Called g f a x q)) (stays : (f : F) (a : ℕ × Unit {0}) (x : X) (q : F) → Called g f a x q → q ≡ f) (f : F) where
  -- it may be called at every place
  pub callable : ((k : ℕ) → g.pre f (k, tt)) → (size : ℕ) → CallableAtEachTurn (index_steps size) (λ p k q. (x : X) × Called g p (k, tt) x q) (λ p k. g.pre p (k, tt)) 0 f
  callable may size =
      serves_by _ (λ ks q. q ≡ f) (λ ks q k p same call. stays q (k, tt) call.0 p call.1 ∙ same)
      (index_steps size) _ 0 f refl (λ ks i q k j past next same. subst (λ h. g.pre h (k, tt)) (sym same) (may k))

  from : (xs : List X) (i n : ℕ) → IsFromFnResultFrom g f xs i n → (k : ℕ) (x : X) → i ≤ k → k < i + n → slice_get xs k ≡ Some x → g.post f (k, tt) x
  from xs i zero calls k x low high here = absurd (omega arith)
  from xs i (suc n) (q, y, at, call, rest) k x low high here =
      elim (cases_eq k i) [
        | inl e ↦ let stood = get_or_from_slice_get xs k x y here in let same : x ≡ y = cc in rw (e, same) ((outcome f (i, tt) y).1 (q, call))
        | inr e ↦ from xs (i + 1) n (subst (λ h. IsFromFnResultFrom g h xs (i + 1) n) (stays f (i, tt) y q call) rest) k x (omega arith) (omega arith) here
      ]

  -- and what it gives stands there
  pub filled : (size : ℕ) (row : Row X size) → IsFromFnResult g f row.cells size → Filled row (λ k x. g.post f (k, tt) x)
  filled size row calls = record {
    long = calls.long;
    each = λ k x here. from row.cells 0 size calls.each k x (omega arith) (omega (arith, calls.long, slice_get_within row.cells k x here)) here;
  }

use Rattle.std.proofs.Common.{rules, ◌≡◌, ◌&&◌, ◌-◌, ◌<◌, length, true, nat_lt, inl, inr, sym, ◌∙◌, arith}
use Rattle.std.proofs.lemmas.Bool.{and_parts, and_from, ltb-true, lt-ltb, true≢false, cases_lt}
use Rattle.std.proofs.lemmas.Grind.{common_steps}
use Rattle.std.proofs.lemmas.List.Sorted.{answers_always}
use Rattle.arbiter.specs.Proper.{Ordered, buffer_at, no_entry, buffer_limit}
use Rattle.arbiter.specs.Order.{Climbing, in_order, climbs, under_at}
use Rattle.arbiter.proofs.proper.is_ordered.Goals as goal

pub returns-then-is_sorted_by : goal.returns-then-is_sorted_by
returns-then-is_sorted_by c =
    let es = c.args.entries.now in
    let a = c.if-is_sorted_by.ensures.cases (λ x y. nat_lt x.buffer y.buffer && nat_lt y.buffer buffer_limit) (answers_always _ _ _ (λ f a r f' k. search rules)) in
    let climbing : Climbing es = λ k lt. ltb-true (buffer_at es k) (buffer_at es _) (and_parts (nat_lt (buffer_at es k) (buffer_at es _)) (nat_lt (buffer_at es _) buffer_limit) (sym (a k no_entry lt))).0 in
    let last : 0 < length es → c.is_none_or.result ≡ nat_lt (buffer_at es (length es - 1)) buffer_limit = λ some. grind (arith, common_steps) in
    let empty : length es ≡ 0 → c.is_none_or.result ≡ true = λ none. grind (arith, common_steps) in (
      λ e. in_order es climbing (λ some. ltb-true (buffer_at es (length es - 1)) buffer_limit (sym (last some) ∙ e)),
      λ o. elim (cases_lt 0 (length es)) [
        | inl some ↦ last some ∙ lt-ltb (buffer_at es (length es - 1)) buffer_limit (under_at es (length es - 1) o (omega arith))
        | inr none ↦ empty (omega arith)
      ],
    )

pub returns-else-is_sorted_by : goal.returns-else-is_sorted_by
returns-else-is_sorted_by c =
    let es = c.args.entries.now in
    let a = c.if-is_sorted_by.ensures.cases (λ x y. nat_lt x.buffer y.buffer && nat_lt y.buffer buffer_limit) (answers_always _ _ _ (λ f a r f' k. search rules)) in
    let stop : Ordered es → ⊥ = λ o. true≢false (sym (and_from (nat_lt (buffer_at es a.0) (buffer_at es _)) (nat_lt (buffer_at es _) buffer_limit) (lt-ltb (buffer_at es a.0) (buffer_at es _) (climbs es o.rising a.0 a.1)) (lt-ltb (buffer_at es _) buffer_limit (under_at es _ o a.1))) ∙ sym (a.2 no_entry)) in
    (λ e. absurd (true≢false (sym e ∙ c.if-is_sorted_by.false)), λ o. absurd (stop o))

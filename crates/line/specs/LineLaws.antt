-- The line keeps the laws. Assumes nothing.
use Rattle.std.proofs.Common.{◌≡◌, ℕ, ◌+◌, ◌-◌, ◌≤◌, true, ltb, leb, Some, arith, lit<, lit≤}
use Rattle.std.proofs.lemmas.Bool.Decides.{nat_tests}
use Rattle.std.proofs.lemmas.Bool.{cond_both, leb-true, and_parts}
use Rattle.network.specs.Network.{hop}
use Rattle.network.specs.Laws.{Leads, Sizes, Lawful}
use Rattle.network.proofs.Restricted.{Sound, usable_lawful}
use Rattle.line.specs.Lines.{line_rule, line_sized, line}

line_sound : (k : ℕ) → line_sized k ≡ true → Sound (line_rule k)
line_sound k good = record {
  distances = record { near = λ n d a b. omega arith; here = λ n a. omega arith; apart = λ n d a b z. omega arith };
  steps = λ n p m d a b c l. grind (arith, nat_tests);
  escapes = λ n d a b c. cond_both (ltb n d) (Some (hop 0 0 (n + 1))) (Some (hop 1 0 (n - 1))) (Leads (line_rule k) n d)
      (λ e. record { port_in = lit< tt; class_in = lit< tt; along = grind (arith, nat_tests); less = grind (arith, nat_tests) })
      (λ e. record { port_in = lit< tt; class_in = lit< tt; along = grind (arith, nat_tests); less = grind (arith, nat_tests) });
  low = λ n p e m a b c l. grind (arith, nat_tests);
  rises = λ n d h j a b c l s m. grind (arith, nat_tests);
  links = λ n p m a b l. grind (arith, nat_tests);
}

line_sizes : (k : ℕ) → line_sized k ≡ true → Sizes (line_rule k)
line_sizes k good =
    let t = and_parts (leb 2 k) (leb k 64) good in
    let lo : 2 ≤ k = leb-true 2 k t.0 in
    let hi : k ≤ 64 = leb-true k 64 t.1 in
    record {
      nodes_low = lo;
      nodes_high = hi;
      ports_low = lit≤ tt;
      ports_high = lit≤ tt;
      classes_low = lit≤ tt;
      classes_high = lit≤ tt;
      ceiling_low = omega arith;
      ceiling_high = omega arith;
    }

pub line_lawful : (k : ℕ) → Lawful (line k)
line_lawful k = usable_lawful (line_sized k) (line_rule k) (line_sizes k) (line_sound k)

use Rattle.std.proofs.Common.{rules, ◌≡◌, ◌+◌, ◌<◌, [], length, get_or, Some, None, Err, vec_items, vec_len, sym, refl, subst, arith}
use Rattle.traceroute.specs.declared.word_error.WordError.TheVariants.{NoNumber}
use Rattle.traceroute.specs.Commands.{Reads, texts, NoneAt, Numbered}
use Rattle.traceroute.proofs.Words.{texts_length, text_after, written_more, none_at}
use Rattle.traceroute.proofs.command.numbers.Goals as goal

pub returns-in_err-ok_or : goal.returns-in_err-ok_or
returns-in_err-ok_or c =
    let ws = c.args.words.now in
    let i = c.loop-before.before in
    let n = vec_len c.loop-before.all in
    let e : n ≡ i = c.loop-before.invariant.0 in
    let t = text_after ws i c.word-item.result c.deref.result.now (omega arith) (search rules) (search rules) in
    let none : c.number.result ≡ None = search rules in
    let r : Reads (get_or (texts ws) (i + 1) []) None = subst (λ x. Reads x None) t (subst (Reads c.deref.result.now) none c.number.ensures) in
    let h : n + 1 < length (texts ws) = omega (arith, texts_length ws) in
    let place : NoneAt (texts ws) (i + 1) = subst (λ j. NoneAt (texts ws) (j + 1)) e (none_at (texts ws) n (vec_items c.loop-before.all) c.loop-before.invariant.1 h (subst (λ j. Reads (get_or (texts ws) (j + 1) []) None) (sym e) r)) in
    let told : c.from_residual.result ≡ Err (NoNumber (i + 1)) = search rules in
    subst (Numbered (texts ws)) (sym told) place

pub loop-before-preserved : goal.loop-before-preserved
loop-before-preserved c =
    let ws = c.args.words.now in
    let i = c.loop-before.before in
    let n = vec_len c.loop-before.all in
    let x = c.in_ok-ok_or.field-0 in
    let e : n ≡ i = c.loop-before.invariant.0 in
    let t = text_after ws i c.word-item.result c.deref.result.now (omega arith) (search rules) (search rules) in
    let some : c.number.result ≡ Some x = search rules in
    let r : Reads (get_or (texts ws) (i + 1) []) (Some x) = subst (λ w. Reads w (Some x)) t (subst (Reads c.deref.result.now) some c.number.ensures) in
    let p = c.in_ok-push.ensures in
    let w = written_more (texts ws) n (vec_items c.loop-before.all) c.loop-before.invariant.1 (vec_items c.push.new.self) x (vec_len c.push.new.self) (λ j h. p.by_index.0 j 0 h) (p.by_index.1 0 refl) (subst (λ j. Reads (get_or (texts ws) (j + 1) []) (Some x)) (sym e) r) p.len in
    (omega (arith, p.len), w)

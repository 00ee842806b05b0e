-- The words of a command, by their texts. Assumes nothing.
use Rattle.std.proofs.Common.{◌≡◌, ℕ, ◌+◌, ◌-◌, ◌<◌, List, [], length, get_or, take, drop, Some, None, string_bytes, String, sym, ap, ◌∙◌, subst, inl, inr, arith}
use Rattle.std.specs.declared.alloc.Global.{Global}
use Rattle.std.proofs.lemmas.List.{get_or-map, get_or-take, get_or-drop, length-map}
use Rattle.std.proofs.lemmas.Bool.{cases_lt}
use Rattle.traceroute.specs.Commands.{Decimal, Reads, texts, Written, NoneAt}

pub texts_length : (words : List (String Global)) → length (texts words) ≡ length words
texts_length words = length-map words string_bytes

-- the text of a word that was read
pub text_at : (words : List (String Global)) (i : ℕ) (w : String Global) (text : List ℕ) → i < length words → w ≡ get_or words i w → text ≡ string_bytes w → text ≡ get_or (texts words) i []
text_at words i w text h e t = t ∙ ap string_bytes e ∙ sym (get_or-map string_bytes words i w [] h)

-- the text of a word that was read after the first
pub text_after : (words : List (String Global)) (i : ℕ) (w : String Global) (text : List ℕ) → i < length words - 1 → w ≡ get_or (take (length words - 1) (drop 1 words)) i w → text ≡ string_bytes w
    → text ≡ get_or (texts words) (i + 1) []
text_after words i w text h e t =
    let next : 1 + i ≡ i + 1 = omega arith in
    let later : get_or (take (length words - 1) (drop 1 words)) i w ≡ get_or words (i + 1) w = get_or-take (length words - 1) (drop 1 words) i w h ∙ get_or-drop 1 words i w ∙ ap (λ j. get_or words j w) next in
    text_at words (i + 1) w text (omega arith) (e ∙ later) t

module _ (words : List (List ℕ)) (k : ℕ) (xs : List ℕ) (written : Written words k xs) where
  pub written_more : (ys : List ℕ) (n more : ℕ) → ((i : ℕ) → i < k → get_or ys i 0 ≡ get_or xs i 0) → get_or ys k 0 ≡ n → Reads (get_or words (k + 1) []) (Some n) → more ≡ k + 1 → Written words more ys
  written_more ys n more same last r e i h = elim (cases_lt i k) [
    | inl a ↦ subst (λ z. Reads (get_or words (i + 1) []) (Some z)) (sym (same i a)) (written i a)
    | inr a ↦
        let f : k ≡ i = omega arith in
        subst (λ j. Reads (get_or words (j + 1) []) (Some (get_or ys j 0))) f (subst (λ z. Reads (get_or words (k + 1) []) (Some z)) (sym last) r)
  ]

  pub none_at : k + 1 < length words → Reads (get_or words (k + 1) []) None → NoneAt words (k + 1)
  none_at inside unread = record {
    after_first = omega arith;
    inside = inside;
    unread = unread;
    earliest = λ i a b. let e : (i - 1) + 1 ≡ i = omega arith in subst (λ j. Decimal (get_or words j [])) e (written (i - 1) (omega arith)).0;
  }

use Rattle.std.proofs.Common.{◌≡◌, ℕ, ◌+◌, ◌-◌, ◌*◌, ◌/◌, ◌%◌, ◌^◌, min, List, length, take, drop, get_or, sym, ap, ◌∙◌, ap₂, arith, rules}
use Rattle.std.proofs.lemmas.List.{take_rest, drop_min, get_or-drop}
use Rattle.number.specs.Sum.{sum}
use Rattle.number.proofs.Sums.{sum_same}
use Rattle.line.specs.Rows.{has}
use Rattle.line.proofs.Digits.{has_digits}
use Rattle.line.proofs.read.word_at.Goals as goal

-- eight bytes, the lowest first, as one number
eight : (f : ℕ → ℕ) → sum 8 (λ j. f j * 2 ^ (8 * j)) ≡ f 0 + f 1 * 256 + f 2 * 65536 + f 3 * 16777216 + f 4 * 4294967296 + f 5 * 1099511627776 + f 6 * 281474976710656 + f 7 * 72057594037927936
unfolding sum
eight f = omega arith

-- a place of the bytes from place k on
shown : (b : List ℕ) (k from j : ℕ) → from ≡ min k (length b) → get_or (take (length b - from) (drop from b)) j 0 ≡ get_or b (k + j) 0
shown b k from j e =
    ap (λ (xs : List ℕ). get_or xs j 0) (take_rest b from ∙ ap (λ n. drop n b) e ∙ drop_min k b) ∙ get_or-drop k b j 0

pub returns : goal.returns
returns c i h =
    let b = c.args.bytes.now in
    let k = c.args.k in
    let whole : c.from_le_bytes.result ≡ sum 8 (λ j. get_or b (k + j) 0 * 2 ^ (8 * j)) =
    c.from_le_bytes.ensures ∙ sym (eight (λ j. get_or c.padded.result j 0)) ∙ sum_same 8 _ _ (λ j l. ap (λ x. x * 2 ^ (8 * j)) (c.padded.ensures j l ∙ shown b k c.min.result j c.min.ensures)) in
    ap (λ x. has x i) whole ∙ has_digits 8 8 (λ j. get_or b (k + j) 0) i (omega arith) (λ j. search rules) h
    ∙ ap₂ (λ x y. has (get_or b x 0) y) (let e : k + i / 8 ≡ (8 * k + i) / 8 = omega arith in e) (let e : i % 8 ≡ (8 * k + i) % 8 = omega arith in e)

-- The split where each user counts once.
use Rattle.std.proofs.Common.{◌≡◌, ℕ, zero, suc, ◌*◌, ◌/◌, ◌%◌, Bool, true, false, cond, ◌&&◌, ltb, sym, refl, ap, ◌∙◌, ap₂, one-mul, mul-zero, div-add-mod', zero-mul, arith}
use mathlib.Core.Path.{fun_ext}
use native.Mathlib.Nat.{zero-div, zero-mod}
use Rattle.std.proofs.lemmas.Bool.{and_left, and_right, lt-ltb, le-ltb}
use Rattle.number.specs.Sum.{one}
use Rattle.number.proofs.Sums.{sum_same, sum_times}
use Rattle.line.specs.Line.{users}
use Rattle.share.specs.Weight.{whole, once}
use Rattle.cents.specs.Rank.{rank}
use Rattle.cents.specs.Split.{whole_cents, broken, rest, pays_odd}
use Rattle.cents.specs.Theorems.{EqualUsers}
use Rattle.cents.proofs.Split.{odd_count_lem}

-- who counts once or not at all
once_div : (b : Bool) (c d : ℕ) → one b * c / d ≡ one b * (c / d)
once_div true c d = rw (one-mul c, one-mul (c / d)) refl
once_div false c d = rw (zero-mul c, zero-div d, zero-mul (c / d)) refl

once_mod : (b : Bool) (c d : ℕ) → one b * c % d ≡ one b * (c % d)
once_mod true c d = rw (one-mul c, one-mul (c % d)) refl
once_mod false c d = rw (zero-mul c, zero-mod d, zero-mul (c % d)) refl

once_times : (b : Bool) (x : ℕ) → one b * x ≡ cond b x 0
once_times true x = one-mul x
once_times false x = zero-mul x

once_some : (b : Bool) (m : ℕ) → ltb 0 (one b * suc m) ≡ b
once_some true m = rw (one-mul (suc m)) (lt-ltb 0 (suc m) (omega arith))
once_some false m = rw (zero-mul (suc m)) refl

pub equal_users_lem : EqualUsers
unfolding whole_cents rest pays_odd broken whole users
equal_users_lem l e c odd i = record {
  each = once_div (l.uses i e) c u ∙ once_times (l.uses i e) (c / u);
  left = rests;
  who = who (c % u) refl;
  many = λ used. odd_count_lem l (once l) e c odd used ∙ rests;
}
  where
    n : ℕ
    n = l.farms

    u : ℕ
    u = users l e

    rests : rest l (once l) e c ≡ c % u
    rests = omega (arith, sum_same n _ _ (λ j _. once_div (l.uses j e) c u), sum_times n (c / u) (λ j. one (l.uses j e)), div-add-mod' c u)

    who : (m : ℕ) → c % u ≡ m → pays_odd l (once l) e c odd i ≡ (l.uses i e && ltb (rank n (λ j. l.uses j e) odd i) m)
    who zero z =
        and_left (broken l (once l) e c i) _ (ap (ltb 0) (once_mod (l.uses i e) c u ∙ ap (λ m. one (l.uses i e) * m) z ∙ mul-zero (one (l.uses i e))))
        ∙ sym (and_right (l.uses i e) _ (le-ltb _ 0 (omega arith)))
    who (suc m) z =
        let all : broken l (once l) e c ≡ (λ j. l.uses j e) = fun_ext (λ j. ap (ltb 0) (once_mod (l.uses j e) c u ∙ ap (λ k. one (l.uses j e) * k) z) ∙ once_some (l.uses j e) m) in
        ap₂ (λ p r. p i && ltb (rank n p odd i) r) all (rests ∙ z)

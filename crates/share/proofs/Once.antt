-- Where each user counts once.
use Rattle.std.proofs.Common.{◌≡◌, ℕ, ◌*◌, Bool, true, false, cond, sym, one-mul, zero-mul}
use Rattle.std.proofs.lemmas.Bool.{true≢false}
use Rattle.number.specs.Fraction.{Fraction, over, ◌≈◌, times}
use Rattle.number.specs.Sum.{one}
use Rattle.number.proofs.Fractions.{same_sym, ◌then◌, times_one, over_same, over_none}
use Rattle.number.proofs.FractionSums.{sumF_same}
use Rattle.line.specs.Line.{users}
use Rattle.share.specs.Weight.{whole, once}
use Rattle.share.specs.Rule.{part_share, the_rule}
use Rattle.share.specs.Theorems.{SomeFair, OnceAgree, OnceRule}
use Rattle.share.proofs.Fairness.{rule_fair}
use Rattle.share.proofs.Weights.{once_fits_lem}

-- a user's weight
times_user : (b : Bool) (a : Fraction) → b ≡ true → times (one b) a ≈ a
times_user true a u = times_one a
times_user false a u = absurd (true≢false (sym u))

pub once_agree : OnceAgree
once_agree l r = (
  λ f. record {
    sharing = f.sharing;
    equally = λ e v i j k ki kj ui uj. same_sym (times_user (l.uses j e) _ uj) then f.by_weight e v i j k ki kj ui uj then times_user (l.uses i e) _ ui;
  },
  λ f. record {
    sharing = f.sharing;
    by_weight = λ e v i j k ki kj ui uj. times_user (l.uses j e) _ uj then f.equally e v i j k ki kj ui uj then same_sym (times_user (l.uses i e) _ ui);
  },
)

pub once_rule_lem : OnceRule
unfolding the_rule part_share whole users
once_rule_lem l _ c i = sumF_same l.parts _ _ (λ e _. each (l.uses i e) (c e) (users l e))
  where
    each : (b : Bool) (v n : ℕ) → over (one b * v) n ≈ cond b (over v n) (over 0 1)
    each true v n = over_same _ v n (one-mul v)
    each false v n = over_same _ 0 n (zero-mul v) then over_none n

pub some_fair : SomeFair
some_fair l used = (once_agree l _).0 (rule_fair l (once l) (once_fits_lem l used))

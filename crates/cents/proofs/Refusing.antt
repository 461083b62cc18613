-- What is refused, test by test.
use Rattle.std.proofs.Common.{◌≡◌, ℕ, ◌<◌, ◌≤◌, ltb, ◌⊎◌, List, length, Some, None, Option, sym, refl, ◌∙◌, inl, inr}
use Rattle.std.proofs.lemmas.Bool.{lt-ltb, le-ltb, or_left, or_right, or_from}
use Rattle.std.specs.Option.{option_map, option_or}
use Rattle.number.specs.First.{found}
use Rattle.number.proofs.Positions.{found_map}
use Rattle.line.specs.declared.refusal.Lent.TheVariants.{Accounts}
use Rattle.line.specs.declared.refusal.Refusal.{Refusal}
use Rattle.line.specs.declared.refusal.Refusal.TheVariants.{Short}
use Rattle.line.specs.Line.{Line}
use Rattle.share.specs.Answer.{costs_refused}
use Rattle.cents.specs.Answer.{odds_then, past, count_refusal, counts_refused, split_refused}

module _ (l : Line) (costs odd : List ℕ) where
  -- too few counts or sums
  pub split_short : (lent : ℕ) → (length odd < l.farms) ⊎ ((l.farms ≤ length odd) × (lent < l.farms)) → split_refused l costs odd lent ≡ Some (Short Accounts)
  unfolding split_refused
  split_short lent (inl h) = rw (or_left _ (ltb lent l.farms) (lt-ltb (length odd) l.farms h)) refl
  split_short lent (inr h) = rw (or_right (ltb (length odd) l.farms) _ (lt-ltb lent l.farms h.1)) refl

  -- enough are lent: the costs are asked, then the counts
  pub split_on : (lent : ℕ) (r : Option Refusal) → l.farms ≤ length odd → l.farms ≤ lent → r ≡ costs_refused l.parts costs →
      split_refused l costs odd lent ≡ option_or r (counts_refused l costs odd)
  unfolding split_refused
  split_on lent r h g is = rw (or_from _ _ (le-ltb (length odd) l.farms h) (le-ltb lent l.farms g), is) refl

  -- enough are lent, and the costs are fine: the first farm whose count comes to be too large is refused, if there is one
  pub split_counts : (lent : ℕ) → l.farms ≤ length odd → l.farms ≤ lent → None ≡ costs_refused l.parts costs → (r : Option ℕ) → r ≡ found l.farms (past (odds_then l costs odd)) →
      option_map count_refusal r ≡ split_refused l costs odd lent
  unfolding counts_refused
  split_counts lent h g fine r is = rw is (found_map count_refusal l.farms (past (odds_then l costs odd))) ∙ sym (split_on lent None h g fine)

-- The worked years, by one computation.
use Rattle.std.proofs.Common.{◌≡◌, ℕ, List, [], ◌∷◌, map, length, get_or, ℤ, pos, ◌*ℤ◌, neg_ℤ, Some, sym, refl, ap, ◌∙◌, zero-add}
use Rattle.std.specs.List.{range_with_len, AllByRecursion}
use Rattle.std.proofs.lemmas.List.FromFn.{get_or-map-range_with_len}
use Rattle.number.specs.First.{first}
use Rattle.number.specs.Fraction.{Fraction, over, ◌⊕◌, sumF}
use Rattle.number.specs.Sum.{sum}
use Rattle.line.specs.Limits.{costs_end}
use Rattle.account.specs.Limits.{account_most, booking_most}
use Rattle.account.specs.Range.{in_range, bookable}
use Rattle.account.specs.declared.booking.Booking.TheVariants.{Closing}
use Rattle.share.specs.Cost.{together, only}
use Rattle.share.specs.Rule.{part_share, the_rule}
use Rattle.share.specs.Weight.{whole}
use Rattle.cents.specs.Closing.{odds, charged}
use Rattle.cents.specs.Limits.{counts_end}
use Rattle.cents.specs.Rank.{before as comes-before, rank}
use Rattle.cents.specs.Split.{whole_cents, broken, rest, pays_odd, odd_cent, cents, odd_after}
use Rattle.posting.specs.Posting.{weights, closing_cents, booked, off, out_of_range, refused, post}
use Rattle.posting.specs.Run.{step}
use Rattle.posting.specs.Years.{Year, before, AllRight, years, YearsRight}

-- a farm's share by the rule, and in the table
ruled : Year → ℕ → Fraction
ruled y i = the_rule (before y).line (weights (before y)) (before y).costs i

listed : Year → ℕ → Fraction
listed y i = get_or y.shares i (over 0 1)

-- what comes out for a farm, and what the table has: its share, crosswise, its cents and its account
comes_out : Year → ℕ → ℤ × ℕ × ℤ
comes_out y i = ((ruled y i).top *ℤ pos (listed y i).bottom, closing_cents (before y) i, (step (before y) (Some Closing)).accounts i)

in_table : Year → ℕ → ℤ × ℕ × ℤ
in_table y i = ((listed y i).top *ℤ pos (ruled y i).bottom, get_or y.cents i 0, neg_ℤ (pos (get_or y.owed i 0)))

-- one or the other for all farms
for_all : (Year → ℕ → ℤ × ℕ × ℤ) → Year → List (ℤ × ℕ × ℤ)
for_all f y = map (f y) (range_with_len 0 (length y.cents))

-- if both are the same, each farm's are
year_right : (y : Year) → for_all comes_out y ≡ for_all in_table y → AllRight y
unfolding for_all comes_out in_table ruled listed
year_right y e i k = record { share = record { crossed = ap (λ x. x.0) same }; cents = ap (λ x. x.1) same; owed = ap (λ x. x.2) same }
  where
    read : (f : Year → ℕ → ℤ × ℕ × ℤ) → get_or (for_all f y) i (comes_out y i) ≡ f y i
    read f = get_or-map-range_with_len (f y) 0 (length y.cents) i i _ k (zero-add i)

    same : comes_out y i ≡ in_table y i
    same = sym (read comes_out) ∙ ap (λ xs. get_or xs i (comes_out y i)) e ∙ read in_table

-- and if they are for all years, each year is right
all_right : (ys : List Year) → map (for_all comes_out) ys ≡ map (for_all in_table) ys → AllByRecursion AllRight ys
all_right [] e = tt
all_right (y ∷ ys) e = (year_right y (cc), all_right ys (cc))

pub years_right : YearsRight
unfolding years for_all comes_out in_table ruled listed over ◌⊕◌ sum sumF first whole together only part_share the_rule comes-before rank whole_cents broken rest pays_odd odd_cent cents odd_after odds charged account_most booking_most costs_end counts_end in_range bookable off booked out_of_range refused post
years_right = all_right years refl

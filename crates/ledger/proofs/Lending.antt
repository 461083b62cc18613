-- What is refused of what is lent.
use Rattle.std.proofs.Common.{◌≡◌, ℕ, ◌+◌, ◌<◌, ◌≤◌, List, length, Some, None, Option, sym, refl, arith}
use Rattle.std.specs.Option.{option_or, option_map}
use Rattle.std.proofs.lemmas.Bool.{le-ltb, ltb-false, or_parts}
use Rattle.std.proofs.lemmas.Option.{none-some}
use Rattle.line.specs.declared.refusal.Holder.{Holder}
use Rattle.line.specs.declared.refusal.Refusal.{Refusal}
use Rattle.line.specs.declared.size.Size.{Size}
use Rattle.share.specs.Answer.{costs_refused, few_refused}
use Rattle.share.proofs.Refusing.{passed, costs_small}
use Rattle.posting.specs.Posting.{out_of_range}
use Rattle.ledger.specs.Held.{state_of}
use Rattle.ledger.specs.Open.{holder_refusal, blank, lent_refused}
use Rattle.ledger.specs.Room.{sheet_length, LentFits}
use Rattle.ledger.proofs.Ranges.{accounts_fit, counts_fit}

-- enough costs are lent where fewer are not refused
pub enough : (m : ℕ) (costs : List ℕ) → None ≡ few_refused m costs → m ≤ length costs
unfolding few_refused
enough m costs h = ltb-false _ _ (passed _ _ _ (sym h)).0

-- where all is long enough, the costs are asked, then the accounts and counts
pub lent_on : (s : Size) (accounts odd costs : List ℕ) (sheet : ℕ) → s.farms + 1 ≤ length accounts → s.farms ≤ length odd → s.parts ≤ length costs →
    (r : Option Refusal) (whose : Option Holder) → sheet_length s.farms s.parts ≤ sheet → r ≡ costs_refused s.parts costs → whose ≡ out_of_range (state_of (blank s) accounts odd costs) →
    lent_refused s accounts odd costs sheet ≡ option_or r (option_map (holder_refusal s.farms) whose)
unfolding lent_refused costs_refused
lent_on s accounts odd costs sheet a o c r whose h is off = rw (is, off, le-ltb _ _ a, le-ltb _ _ o, le-ltb _ _ c, le-ltb _ _ h) refl

-- a refusal that is not there
other_none : (r x : Option Refusal) → option_or r x ≡ None → (r ≡ None) × (x ≡ None)
other_none (Some e) x h = absurd (none-some e (sym h))
other_none None x h = (refl, h)

mapped_none : (f : Holder → Refusal) (o : Option Holder) → option_map f o ≡ None → o ≡ None
mapped_none f (Some w) h = absurd (none-some (f w) (sym h))
mapped_none f None h = refl

-- room for one more than n
room_after : (n k : ℕ) → n + 1 ≤ k → n < k
room_after n k h = omega arith

-- what is not refused fits
pub lent_fine : (s : Size) (accounts odd costs : List ℕ) (sheet : ℕ) → lent_refused s accounts odd costs sheet ≡ None → LentFits s accounts odd costs sheet
unfolding lent_refused
lent_fine s accounts odd costs sheet h =
    let first = passed _ _ _ h in
    let short = or_parts _ _ first.0 in
    let second = passed _ _ _ first.1 in
    let third = passed _ _ _ second.1 in
    let ranges = other_none _ _ third.1 in
    let nobody = sym (mapped_none _ _ ranges.1) in
    record {
      accounts_room = room_after _ _ (ltb-false _ _ short.0);
      odd_room = ltb-false _ _ short.1;
      costs_room = ltb-false _ _ second.0;
      sheet_room = ltb-false _ _ third.0;
      accounts_fit = accounts_fit (blank s) accounts odd costs nobody;
      odd_fit = counts_fit (blank s) accounts odd costs nobody;
      costs_fit = costs_small s.parts costs ranges.0;
    }

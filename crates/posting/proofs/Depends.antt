-- What a closing books depends on the costs by part and on the odd cents before alone.
use Rattle.std.proofs.Common.{◌≡◌, ℕ, ◌+◌, ◌<◌, Bool, true, false, cond, List, [], ◌∷◌, Some, None, sym, refl, ap, ◌∙◌, arith}
use Rattle.std.proofs.lemmas.Bool.{true≢false}
use Rattle.number.specs.Sum.{one}
use Rattle.account.specs.declared.booking.Booking.{Booking}
use Rattle.account.specs.declared.booking.Booking.TheVariants.{Cost, Payment, Closing}
use Rattle.share.specs.Cost.{together}
use Rattle.share.specs.Weight.{once}
use Rattle.cents.specs.Closing.{odds, charged}
use Rattle.cents.specs.Level.{Differ}
use Rattle.cents.proofs.Level.{closing_level_lem}
use Rattle.cents.proofs.Closing.{odds_same, charged_same}
use Rattle.posting.specs.State.{State}
use Rattle.posting.specs.Posting.{booked, taken, post}
use Rattle.posting.specs.Run.{Entry, step, run}
use Rattle.posting.specs.Totals.{if_taken, tally, cost_of}
use Rattle.posting.specs.Laws.{SameClosing, NoClosingTaken, Depends, Level}
use Rattle.posting.proofs.Runs.{run_keeps, line_kept}

-- states with the same line, whose costs and counts are the same, are closed alike
pub closing_same : (s t : State) → s.line ≡ t.line → ((e : ℕ) → e < s.line.parts → s.costs e ≡ t.costs e) → ((i : ℕ) → i < s.line.farms → s.odd i ≡ t.odd i) →
    (i : ℕ) → i < s.line.farms → SameClosing s t i
unfolding booked
closing_same s t line costs odd i k = record {
  cents = charged_same s.line (once s.line) s.costs t.costs s.odd t.odd s.line.parts costs odd s.line.parts (omega arith) i k ∙ ap (λ l. charged l (once l) t.costs t.odd i l.parts) line;
  odd = odds_same s.line (once s.line) s.costs t.costs s.odd t.odd s.line.parts costs odd s.line.parts (omega arith) i k ∙ ap (λ l. odds l (once l) t.costs t.odd l.parts i) line;
}

-- where no closing is taken, the costs of a part are added up
added_costs : (s : State) (row : List Entry) → NoClosingTaken s row → (e : ℕ) → (run s row).costs e ≡ s.costs e + tally (cost_of e) s row
unfolding booked post tally together
added_costs s [] _ e = omega arith
added_costs s (x ∷ row) o e = omega (arith, now x o.0, added_costs (step s x) row o.1 e)
  where
    adds : (t : Bool) (b : Booking) → (b ≡ Closing → t ≡ false) → (cond t (booked s b) s).costs e ≡ s.costs e + cond t (cost_of e s b) 0
    adds true (Cost p c) _ = refl
    adds true (Payment f c) _ = omega arith
    adds true Closing o = absurd (true≢false (o refl))
    adds false b _ = omega arith

    now : (x : Entry) → (x ≡ Some Closing → taken s Closing ≡ false) → (step s x).costs e ≡ s.costs e + if_taken (cost_of e) s x
    now (Some b) o = adds (taken s b) b (λ q. ap (taken s) q ∙ o (ap Some q))
    now None _ = omega arith

-- and counts stay
counts_stay : (s : State) (row : List Entry) → NoClosingTaken s row → (run s row).odd ≡ s.odd
unfolding booked post
counts_stay s [] _ = refl
counts_stay s (x ∷ row) o = counts_stay (step s x) row o.1 ∙ now x o.0
  where
    stays : (t : Bool) (b : Booking) → (b ≡ Closing → t ≡ false) → (cond t (booked s b) s).odd ≡ s.odd
    stays true (Cost p c) _ = refl
    stays true (Payment f c) _ = refl
    stays true Closing o = absurd (true≢false (o refl))
    stays false b _ = refl

    now : (x : Entry) → (x ≡ Some Closing → taken s Closing ≡ false) → (step s x).odd ≡ s.odd
    now (Some b) o = stays (taken s b) b (λ q. ap (taken s) q ∙ o (ap Some q))
    now None _ = refl

-- rows with no closing that is taken, after which each part has cost the same, are closed alike
pub depends : (s : State) (row : List Entry) → Depends s row (run s row)
depends s row o s' row' o' line costs odd i k = closing_same (run s' row') (run s row) (here ∙ sym (line_kept s row)) by_part by_farm i (rw here k)
  where
    here : (run s' row').line ≡ s.line
    here = line_kept s' row' ∙ line

    by_part : (e : ℕ) → e < (run s' row').line.parts → (run s' row').costs e ≡ (run s row).costs e
    by_part e h = added_costs s' row' o' e ∙ costs e (rw here at h) ∙ sym (added_costs s row o e)

    by_farm : (j : ℕ) → j < (run s' row').line.farms → (run s' row').odd j ≡ (run s row).odd j
    by_farm j h = ap (λ f. f j) (counts_stay s' row' o') ∙ odd j (rw here at h) ∙ sym (ap (λ f. f j) (counts_stay s row o))

-- i and j are farms that use the same parts, at most one odd cent apart
record Alike (i j : ℕ) (s : State) : Type 0 where
  first : i < s.line.farms
  second : j < s.line.farms
  same : (e : ℕ) → e < s.line.parts → s.line.uses i e ≡ s.line.uses j e
  near : Differ 1 (s.odd i) (s.odd j)

-- a booking leaves them so
alike_stay : (i j : ℕ) (s : State) (b : Booking) → taken s b ≡ true → Alike i j s → Alike i j (booked s b)
unfolding booked
alike_stay i j s (Cost p c) _ h = record { first = h.first; second = h.second; same = h.same; near = h.near }
alike_stay i j s (Payment f c) _ h = record { first = h.first; second = h.second; same = h.same; near = h.near }
alike_stay i j s Closing _ h = record {
  first = h.first;
  second = h.second;
  same = h.same;
  near = closing_level_lem s.line (once s.line) s.costs s.odd i j s.line.parts h.first h.second (λ e k. ap one (h.same e k)) h.near;
}

-- so they stay level
pub level : (s : State) (row : List Entry) → Level s (run s row)
level s row i j ki kj same near = (run_keeps (Alike i j) (alike_stay i j) s row (record { first = ki; second = kj; same = same; near = near })).near

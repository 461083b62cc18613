-- Ranges stay, and between closings order does not matter.
use Rattle.std.proofs.Common.{◌≡◌, ℕ, ◌+◌, ◌<◌, true, List, [], ◌∷◌, ℤ, pos, ◌+ℤ◌, ◌-ℤ◌, Some, None, sym, refl, ap, ◌∙◌, subst, inl, inr, add-zero, arith}
use mathlib.Core.Path.{fun_ext}
use borrow.Author.Differences.{ints}
use lib.IntN.{+ℤ_idr}
use Rattle.std.specs.List.{AllByRecursion}
use Rattle.std.proofs.lemmas.Bool.{cases_eq}
use Rattle.line.specs.Limits.{costs_end}
use Rattle.account.specs.Range.{in_range}
use Rattle.account.specs.declared.booking.Booking.{Booking}
use Rattle.account.specs.declared.booking.Booking.TheVariants.{Cost, Payment, Closing}
use Rattle.share.specs.Cost.{only, together}
use Rattle.share.proofs.Building.{only_same, only_other}
use Rattle.posting.specs.State.{State}
use Rattle.posting.specs.Posting.{booked, refused, taken, post}
use Rattle.posting.specs.Run.{Entry, run}
use Rattle.posting.specs.Laws.{Sound, Reordered, nothing, next, swapped, after, NoClosing, AllTaken, OrderFree}
use Rattle.posting.proofs.Posting.{post_is}
use Rattle.posting.proofs.Runs.{run_keeps}
use Rattle.posting.proofs.Taken.{cost_fits, fits_cost, payment_fits, fits_payment, closing_fits}

-- what holds with c at e and with 0 elsewhere
by_only : (P : ℕ → ℕ → Type 0) (e c g : ℕ) → P e c → P g 0 → P g (only e c g)
by_only P e c g h k =
    elim (cases_eq e g) [
      | inl p ↦ subst (λ x. P x (only e c x)) p (rw (only_same e c) h)
      | inr q ↦ rw (only_other e c g q) k
    ]

-- a booking that is taken leaves a sound state sound
booked_sound : (s : State) (b : Booking) → taken s b ≡ true → Sound s → Sound (booked s b)
unfolding booked together
booked_sound s (Cost p c) t v =
    let fits = cost_fits s p c t in
    record {
      used = v.used;
      accounts = v.accounts;
      cooperative = fits.held;
      costs = λ e k. by_only (λ e x. s.costs e + x < costs_end) p.0 c.0 e fits.costs (omega (arith, v.costs e k));
      odd = v.odd;
    }
booked_sound s (Payment f c) t v =
    let fits = payment_fits s f c t in
    record {
      used = v.used;
      accounts = λ i k. by_only (λ i x. in_range (s.accounts i +ℤ pos x) ≡ true) f.0 c.0 i fits.held (rw +ℤ_idr (v.accounts i k));
      cooperative = v.cooperative;
      costs = v.costs;
      odd = v.odd;
    }
booked_sound s Closing t v =
    let fits = closing_fits s t in
    record {
      used = v.used;
      accounts = fits.accounts;
      cooperative = fits.cooperative;
      costs = λ e k. omega (arith, v.costs e k);
      odd = fits.odd;
    }

-- and so does every row
pub stays_sound : (s : State) (row : List Entry) → Sound s → Sound (run s row)
stays_sound = run_keeps Sound booked_sound

-- what is in range before two changes and after both is in range after the second alone
range_down : (z : ℤ) (a b : ℕ) → in_range z ≡ true → in_range (z -ℤ pos a -ℤ pos b) ≡ true → in_range (z -ℤ pos b) ≡ true
unfolding in_range
range_down z a b h k = grind (arith, ints)

range_up : (z : ℤ) (a b : ℕ) → in_range z ≡ true → in_range (z +ℤ pos a +ℤ pos b) ≡ true → in_range (z +ℤ pos b) ≡ true
unfolding in_range
range_up z a b h k = grind (arith, ints)

-- what holds of one change at e and one at f, one after the other, holds in the other order
change_swap : {A : Type 0} (P : A → Type 0) (add : A → ℕ → A) → ((x : A) (c d : ℕ) → add (add x c) d ≡ add (add x d) c) → ((x : A) → add x 0 ≡ x) →
    (k : ℕ → A) (e c f d : ℕ) → P (add (k e) c) → P (add (add (k f) (only e c f)) d) → P (add (add (k e) (only f d e)) c)
change_swap P add comm zero-add k e c f d h g =
    elim (cases_eq f e) [
      | inl p ↦ rw (comm (k e) (only f d e) c, ap (λ x. only x d e) p ∙ only_same e d) (rw (only_same e c) at (subst (λ x. P (add (add (k x) (only e c x)) d)) p g))
      | inr q ↦ rw (only_other f d e q, zero-add (k e)) h
    ]

-- states with the same fields
pub state_same : (s t : State) → s.line ≡ t.line → s.accounts ≡ t.accounts → s.cooperative ≡ t.cooperative → s.costs ≡ t.costs → s.odd ≡ t.odd → s ≡ t
state_same s t l p q r o = λ i. record { line = l i; accounts = p i; cooperative = q i; costs = r i; odd = o i }

-- b is taken before a, a after it, and both leave what they leave in the other order
record Swap (s : State) (a b : Booking) : Type 0 where
  first : taken s b ≡ true
  second : taken (booked s b) a ≡ true
  same : booked (booked s b) a ≡ booked (booked s a) b

-- two bookings that are no closings change places
swap : (s : State) → Sound s → (a b : Booking) → NoClosing (Some a) → NoClosing (Some b) → taken s a ≡ true → taken (booked s a) b ≡ true → Swap s a b
unfolding booked refused together
swap s v (Cost p c) (Cost q d) _ _ ta tb =
    let x = cost_fits s p c ta in
    let y = cost_fits (booked s (Cost p c)) q d tb in
    let turn : s.cooperative -ℤ pos d.0 -ℤ pos c.0 ≡ s.cooperative -ℤ pos c.0 -ℤ pos d.0 = omega (arith, ints) in
    record {
      first = fits_cost s q d (record { known = y.known; right = y.right; costs = omega (arith, y.costs); held = range_down s.cooperative c.0 d.0 v.cooperative y.held });
      second = fits_cost (booked s (Cost q d)) p c (record {
        known = x.known;
        right = x.right;
        costs = change_swap (λ n. n < costs_end) ◌+◌ (λ n m k. omega arith) add-zero s.costs p.0 c.0 q.0 d.0 x.costs y.costs;
        held = rw turn y.held;
      });
      same = state_same _ _ refl refl turn (fun_ext (λ g. omega arith)) refl;
    }
swap s v (Cost p c) (Payment g d) _ _ ta tb = record { first = tb; second = ta; same = refl }
swap s v (Payment f c) (Cost q d) _ _ ta tb = record { first = tb; second = ta; same = refl }
swap s v (Payment f c) (Payment g d) _ _ ta tb =
    let x = payment_fits s f c ta in
    let y = payment_fits (booked s (Payment f c)) g d tb in
    record {
      first = fits_payment s g d (record { known = y.known; right = y.right; held = range_up (s.accounts g.0) (only f.0 c.0 g.0) d.0 (v.accounts g.0 y.known) y.held });
      second = fits_payment (booked s (Payment g d)) f c (record {
        known = x.known;
        right = x.right;
        held = change_swap (λ z. in_range z ≡ true) (λ z n. z +ℤ pos n) (λ z m n. omega (arith, ints)) +ℤ_idr s.accounts f.0 c.0 g.0 d.0 x.held y.held;
      });
      same = state_same _ _ refl (fun_ext (λ i. omega (arith, ints))) refl refl refl;
    }
swap s v (Cost p c) Closing _ o ta tb = absurd o
swap s v (Payment f c) Closing _ o ta tb = absurd o
swap s v Closing b o _ ta tb = absurd o

-- in another order there is no closing either
pub none_closing : {xs ys : List Entry} → Reordered xs ys → AllByRecursion NoClosing xs → AllByRecursion NoClosing ys
none_closing nothing o = tt
none_closing (next e r) o = (o.0, none_closing r o.1)
none_closing (swapped a b xs) o = (o.1.0, (o.0, o.1.1))
none_closing (after p q) o = none_closing q (none_closing p o)

-- all are taken in the other order, and leave the same state
free : {xs ys : List Entry} → Reordered xs ys → (s : State) → Sound s → AllByRecursion NoClosing xs → AllTaken s xs → AllTaken s ys × (run s ys ≡ run s xs)
free nothing s v o t = (tt, refl)
free (next (Some b) r) s v o t = let h = free r (post s b) (stays_sound s (Some b ∷ []) v) o.1 t.1 in ((t.0, h.0), h.1)
free (next None r) s v o t = absurd t
free (swapped (Some a) (Some b) xs) s v o t =
    let one = sym (post_is s a t.0) in
    let u : taken (booked s a) b ≡ true = rw one at t.1.0 in
    let w = swap s v a b o.0 o.1.0 t.0 u in
    let two = sym (post_is s b w.first) in
    let same = ap (λ z. post z a) two ∙ sym (post_is (booked s b) a w.second) ∙ w.same ∙ post_is (booked s a) b u ∙ sym (ap (λ z. post z b) one) in
    ((w.first, (rw two w.second, subst (λ z. AllTaken z xs) (sym same) t.1.1)), ap (λ z. run z xs) same)
free (swapped (Some a) None xs) s v o t = absurd t.1
free (swapped None b xs) s v o t = absurd t
free (after p q) s v o t =
    let h = free p s v o t in
    let k = free q s v (none_closing p o) h.0 in
    (k.0, k.1 ∙ h.1)

pub order_free : (s : State) (row : List Entry) → Sound s → OrderFree s row (run s row)
order_free s row v o t row' r = free r s v o t

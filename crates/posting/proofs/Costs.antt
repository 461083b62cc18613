-- Between closings the order of the costs does not matter, whatever becomes of other entries.
use Rattle.std.proofs.Common.{◌≡◌, Bool, true, false, cond, List, [], ◌∷◌, pos, Some, None, filter, sym, refl, ap, ◌∙◌}
use Rattle.std.specs.List.{AllByRecursion}
use Rattle.std.proofs.ByRecursion.{all_kept_by}
use Rattle.number.specs.declared.cents.Cents.{Cents}
use Rattle.line.specs.declared.names.Farm.{Farm}
use Rattle.line.specs.declared.names.Part.{Part}
use Rattle.account.specs.declared.booking.Booking.TheVariants.{Cost, Payment, Closing}
use Rattle.posting.specs.State.{State}
use Rattle.posting.specs.Posting.{booked, refused, taken, post}
use Rattle.posting.specs.Run.{Entry, run}
use Rattle.posting.specs.Laws.{Sound, Reordered, nothing, next, swapped, after, NoClosing, AllTaken, CostsTaken, CostsOrderFree}
use Rattle.posting.proofs.Order.{none_closing, order_free}

-- an entry is a cost
abbrev is_cost : Entry → Bool
is_cost (Some (Cost p c)) = true
is_cost (Some (Payment f c)) = false
is_cost (Some Closing) = false
is_cost None = false

-- the costs of a row alone
abbrev only_costs : List Entry → List Entry
only_costs row = filter is_cost row

-- a row in the order that it has
same_order : (row : List Entry) → Reordered row row
same_order [] = nothing
same_order (e ∷ row) = next e (same_order row)

-- an entry is put before a row, or left out
abbrev put : Bool → Entry → List Entry → List Entry
put x e row = cond x (e ∷ row) row

-- so put, one entry keeps rows reordered, and two change places
put_next : (x : Bool) (e : Entry) {xs ys : List Entry} → Reordered xs ys → Reordered (put x e xs) (put x e ys)
put_next true e r = next e r
put_next false e r = r

put_swapped : (x y : Bool) (a b : Entry) (xs : List Entry) → Reordered (put x a (put y b xs)) (put y b (put x a xs))
put_swapped true true a b xs = swapped a b xs
put_swapped true false a b xs = same_order (a ∷ xs)
put_swapped false true a b xs = same_order (b ∷ xs)
put_swapped false false a b xs = same_order xs

-- if a row is reordered, so are its costs
costs_reordered : {xs ys : List Entry} → Reordered xs ys → Reordered (only_costs xs) (only_costs ys)
costs_reordered nothing = nothing
costs_reordered (next e r) = put_next (is_cost e) e (costs_reordered r)
costs_reordered (swapped a b xs) = put_swapped (is_cost a) (is_cost b) a b (only_costs xs)
costs_reordered (after p q) = after (costs_reordered p) (costs_reordered q)

-- a state without what costs neither ask nor change: the farms' accounts and odd cents
abbrev bare : State → State
bare s = record { line = s.line; accounts = λ _. pos 0; cooperative = s.cooperative; costs = s.costs; odd = λ _. 0 }

-- states that are the same but for that take the same costs
cost_alike : (s t : State) (p : Part) (c : Cents) → bare s ≡ bare t → taken s (Cost p c) ≡ taken t (Cost p c)
unfolding refused
cost_alike s t p c h = ap (λ z. taken z (Cost p c)) h

-- and are the same but for that after a cost
after_cost : (s t : State) (p : Part) (c : Cents) → bare s ≡ bare t → bare (post s (Cost p c)) ≡ bare (post t (Cost p c))
unfolding booked refused post
after_cost s t p c h = without s ∙ ap (λ z. bare (post z (Cost p c))) h ∙ sym (without t)
  where
    without : (s : State) → bare (post s (Cost p c)) ≡ bare (post (bare s) (Cost p c))
    without s = go (taken s (Cost p c))
      where
        go : (x : Bool) → bare (cond x (booked s (Cost p c)) s) ≡ bare (cond x (booked (bare s) (Cost p c)) (bare s))
        go true = refl
        go false = refl

-- a payment changes nothing else
after_payment : (s : State) (f : Farm) (c : Cents) → bare (post s (Payment f c)) ≡ bare s
unfolding booked post
after_payment s f c = go (taken s (Payment f c))
  where
    go : (x : Bool) → bare (cond x (booked s (Payment f c)) s) ≡ bare s
    go true = refl
    go false = refl

-- so a row with no closing leaves what its costs alone leave
left_by_costs : (s t : State) → bare s ≡ bare t → (row : List Entry) → AllByRecursion NoClosing row → bare (run s row) ≡ bare (run t (only_costs row))
left_by_costs s t h [] o = h
left_by_costs s t h (Some (Cost p c) ∷ row) o = left_by_costs (post s (Cost p c)) (post t (Cost p c)) (after_cost s t p c h) row o.1
left_by_costs s t h (Some (Payment f c) ∷ row) o = left_by_costs (post s (Payment f c)) t (after_payment s f c ∙ h) row o.1
left_by_costs s t h (Some Closing ∷ row) o = absurd o.0
left_by_costs s t h (None ∷ row) o = left_by_costs s t h row o.1

-- and its costs are taken if and only if they are taken alone
taken_alone : (s t : State) → bare s ≡ bare t → (row : List Entry) → AllByRecursion NoClosing row → (CostsTaken s row → AllTaken t (only_costs row)) × (AllTaken t (only_costs row) → CostsTaken s row)
taken_alone s t h [] o = (λ x. x, λ x. x)
taken_alone s t h (Some (Cost p c) ∷ row) o =
    let same = cost_alike s t p c h in
    let k = taken_alone (post s (Cost p c)) (post t (Cost p c)) (after_cost s t p c h) row o.1 in
    (λ x. (sym same ∙ x.0, k.0 x.1), λ x. (same ∙ x.0, k.1 x.1))
taken_alone s t h (Some (Payment f c) ∷ row) o = taken_alone (post s (Payment f c)) t (after_payment s f c ∙ h) row o.1
taken_alone s t h (Some Closing ∷ row) o = absurd o.0
taken_alone s t h (None ∷ row) o = taken_alone s t h row o.1

-- costs alone are taken in every order, and leave the same
pub costs_order_free : (s : State) (row : List Entry) → Sound s → CostsOrderFree s row (run s row)
costs_order_free s row v o t row' r =
    let alone = order_free s (only_costs row) v (all_kept_by is_cost NoClosing row o) ((taken_alone s s refl row o).0 t) (only_costs row') (costs_reordered r) in
    let o' = none_closing r o in
    let same = left_by_costs s s refl row' o' ∙ ap bare alone.1 ∙ sym (left_by_costs s s refl row o) in
    ((taken_alone s s refl row' o').1 alone.0, λ e. ap (λ z. z.costs e) same, ap (λ z. z.cooperative) same)

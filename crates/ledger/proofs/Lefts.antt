-- What no booking changes.
use Rattle.std.proofs.Common.{◌≡◌, ◌+◌, drop, refl, ◌∙◌, subst}
use Rattle.ledger.specs.Held.{Left}
use Rattle.ledger.specs.declared.ledger.Ledger.{Ledger}

pub left_all : (g : Ledger) → Left g g
left_all g = record {
  line = refl;
  sheet = refl;
  accounts = refl;
  odd = refl;
  costs = refl;
  line_name = refl;
  accounts_name = refl;
  odd_name = refl;
  costs_name = refl;
  sheet_name = refl;
}

-- one change, and then another
pub left_then : (f g h : Ledger) → Left f g → Left g h → Left f h
left_then f g h a b = record {
  line = b.line ∙ a.line;
  sheet = b.sheet ∙ a.sheet;
  accounts = subst (λ l. drop (l.size.farms + 1) h.accounts.now ≡ drop (l.size.farms + 1) g.accounts.now) a.line b.accounts ∙ a.accounts;
  odd = subst (λ l. drop l.size.farms h.odd.now ≡ drop l.size.farms g.odd.now) a.line b.odd ∙ a.odd;
  costs = subst (λ l. drop l.size.parts h.costs.now ≡ drop l.size.parts g.costs.now) a.line b.costs ∙ a.costs;
  line_name = b.line_name ∙ a.line_name;
  accounts_name = b.accounts_name ∙ a.accounts_name;
  odd_name = b.odd_name ∙ a.odd_name;
  costs_name = b.costs_name ∙ a.costs_name;
  sheet_name = b.sheet_name ∙ a.sheet_name;
}

-- The state that the rows lent to a ledger hold, and what no booking changes.
use Rattle.std.specs.Prelude.{◌≡◌, ℕ, ◌+◌, ◌<◌, cond, List, drop, ℤ, pos, nat_lt}
use Rattle.line.specs.declared.refusal.Holder.{Holder}
use Rattle.line.specs.declared.refusal.Holder.TheVariants.{Farm as OfFarm, Cooperative}
use Rattle.line.specs.Held.{held as line_held}
use Rattle.line.specs.Line.{Line}
use Rattle.account.specs.Range.{account_at}
use Rattle.share.specs.Answer.{at}
use Rattle.posting.specs.State.{State}
use Rattle.ledger.specs.declared.ledger.Ledger.{Ledger}

-- f below n, and z from n on
abbrev pub inside : {A : Type 0} → ℕ → A → (ℕ → A) → ℕ → A
inside n z f i = cond (nat_lt i n) (f i) z

-- the state in rows: the farms' accounts and then the cooperative's, the counts of odd cents, the costs
abbrev pub state_of : Line → (accounts odd costs : List ℕ) → State
state_of l accounts odd costs = record {
  line = l;
  accounts = inside l.farms (pos 0) (account_at accounts);
  cooperative = account_at accounts l.farms;
  costs = inside l.parts 0 (at costs);
  odd = inside l.farms 0 (at odd);
}

-- the state that a ledger holds
abbrev pub held : Ledger → State
held g = state_of (line_held g.line.now) g.accounts.now g.odd.now g.costs.now

-- there is such a holder among n farms and the cooperative
abbrev pub IsHolder : ℕ → Holder → Type 0
IsHolder n (OfFarm f) = f.0 < n
IsHolder n Cooperative = Unit {0}

-- where a holder's account stands in a row: n farms' accounts by their numbers, then the cooperative's
abbrev pub place_of : ℕ → Holder → ℕ
place_of n (OfFarm f) = f.0
place_of n Cooperative = n

-- a holder's account
abbrev pub balance_of : State → Holder → ℤ
balance_of s (OfFarm f) = s.accounts f.0
balance_of s Cooperative = s.cooperative

-- the state where no costs are left
abbrev pub cleared : State → State
cleared s = record { line = s.line; accounts = s.accounts; cooperative = s.cooperative; costs = λ _. 0; odd = s.odd }

-- h is over the same memory as g, with the same line; the sheet, and whatever stands behind what is needed, is the same
pub record Left (g h : Ledger) : Type 0 where
  pub line : h.line.now ≡ g.line.now
  pub sheet : h.sheet.now ≡ g.sheet.now
  pub accounts : drop (g.line.now.size.farms + 1) h.accounts.now ≡ drop (g.line.now.size.farms + 1) g.accounts.now
  pub odd : drop g.line.now.size.farms h.odd.now ≡ drop g.line.now.size.farms g.odd.now
  pub costs : drop g.line.now.size.parts h.costs.now ≡ drop g.line.now.size.parts g.costs.now
  pub line_name : h.line.ghost_name ≡ g.line.ghost_name
  pub accounts_name : h.accounts.ghost_name ≡ g.accounts.ghost_name
  pub odd_name : h.odd.ghost_name ≡ g.odd.ghost_name
  pub costs_name : h.costs.ghost_name ≡ g.costs.ghost_name
  pub sheet_name : h.sheet.ghost_name ≡ g.sheet.ghost_name

-- All that is promised of a row, together.
use Rattle.posting.specs.Run.{run}
use Rattle.posting.specs.Laws.{RowsRight}
use Rattle.posting.proofs.Depends.{depends, level}
use Rattle.posting.proofs.Kept.{kept}
use Rattle.posting.proofs.Nearness.{near_at_closings}
use Rattle.posting.proofs.Costs.{costs_order_free}
use Rattle.posting.proofs.Order.{stays_sound, order_free}

-- a state before a stretch is sound, so what holds of every row from a sound state holds of every stretch
pub rows_right : RowsRight
rows_right s row v = (
  stays_sound s row v,
  record {
    kept = kept s row;
    near = near_at_closings s row v.used;
    depends = λ before stretch _ _. depends (run s before) stretch;
    order = λ before stretch _ _. order_free (run s before) stretch (stays_sound s before v);
    costs_order = λ before stretch _ _. costs_order_free (run s before) stretch (stays_sound s before v);
    level = λ before stretch _ _. level (run s before) stretch;
  },
)

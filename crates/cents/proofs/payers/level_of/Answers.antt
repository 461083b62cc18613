use Rattle.std.proofs.Common.{◌+◌, ◌<◌, length, arith}
use Rattle.cents.proofs.Counts.{none_below, all_below}
use Rattle.cents.proofs.payers.level_of.Goals as goal

pub loop-low-init : goal.loop-low-init
loop-low-init c =
    let counts = c.args.counts.now in
    let spread = c.spread-low in
    let some : 0 < length counts = omega (arith, c.requires.some) in (
      omega (arith, spread.ensures.least 0 some, spread.ensures.most 0 some),
      omega (arith, none_below counts spread.result.0 spread.ensures.least),
      omega (arith, c.requires.some, all_below counts (spread.result.1 + 1) (λ j l. omega (arith, spread.ensures.most j l))),
    )

-- What is promised of the rule. Each is a statement; the function in src/ that names it owes its proof.
use Rattle.std.specs.Prelude.{◌≡◌, ℕ, ◌*◌, ◌<◌, ◌≤◌, cond}
use Rattle.number.specs.Fraction.{over, ◌≈◌, ◌≼◌, sumF}
use Rattle.line.specs.Line.{Line, users}
use Rattle.share.specs.Cost.{Costs}
use Rattle.share.specs.Weight.{Weights, Fits, once, AllUsed}
use Rattle.share.specs.Rule.{Rule, the_rule}
use Rattle.share.specs.Fair.{Fair, FairOnce}
use Rattle.share.specs.Group.{Group, alone, group_pays, group_sum}
use Rattle.share.specs.Least.{LeastScale}
use Rattle.share.specs.Scale.{Scale, scaled}
use Rattle.share.specs.Whole.{ScaledRule, FairWhole, AllDivide, whole_rule}
use Rattle.share.specs.Shares.{Shares}

-- the rule is fair
abbrev pub RuleFair : Type 0
RuleFair = (l : Line) (weight : Weights) → Fits l weight → Fair l weight (the_rule l weight)

-- any two fair rules give every farm the same share, for all costs
abbrev pub NoOther : Type 0
NoOther =
    (l : Line) (weight : Weights) → Fits l weight → (r q : Rule) → Fair l weight r → Fair l weight q →
    (c : Costs) (i : ℕ) → i < l.farms → r c i ≈ q c i

-- so every fair rule gives the shares of the rule
abbrev pub EveryFairRule : Type 0
EveryFairRule =
    (l : Line) (weight : Weights) → Fits l weight → (r : Rule) → Fair l weight r →
    (c : Costs) (i : ℕ) → i < l.farms → r c i ≈ the_rule l weight c i

-- no group of farms pays more than the parts that one of it uses cost
abbrev pub NobodyLeaves : Type 0
NobodyLeaves =
    (l : Line) (weight : Weights) → Fits l weight → (c : Costs) (g : Group) →
    group_pays l g (the_rule l weight c) ≼ over (alone l g c) 1

-- if each part has a user, weights by which each user counts once fit the line
abbrev pub OnceFits : Type 0
OnceFits = (l : Line) → AllUsed l → Fits l (once l)

-- so some rule is fair: all users of a part can pay the same
abbrev pub SomeFair : Type 0
SomeFair = (l : Line) → AllUsed l → FairOnce l (the_rule l (once l))

-- where each user counts once, to share by weight is to have all users of a part pay the same
abbrev pub OnceAgree : Type 0
OnceAgree = (l : Line) (r : Rule) → (Fair l (once l) r → FairOnce l r) × (FairOnce l r → Fair l (once l) r)

-- and there a farm pays, for each part that it uses, the cost over the number of its users
abbrev pub OnceRule : Type 0
OnceRule =
    (l : Line) → AllUsed l → (c : Costs) (i : ℕ) →
    the_rule l (once l) c i ≈ sumF l.parts (λ e. cond (l.uses i e) (over (c e) (users l e)) (over 0 1))

-- the whole numbers, over their scale, are the shares of the rule
abbrev pub ScaledRight : Type 0
ScaledRight =
    (l : Line) (weight : Weights) (c : Costs) (scale : ℕ) (per : ℕ → ℕ) → Scale l weight c scale per →
    (i : ℕ) → over (scaled l weight per c i) scale ≈ the_rule l weight c i

-- there is one least scale, and only one
abbrev pub OneScale : Type 0
OneScale = (l : Line) (c : Costs) (k : ℕ) → ((s : ℕ) × LeastScale l c k s) × ((s t : ℕ) → LeastScale l c k s → LeastScale l c k t → s ≡ t)

-- in whole numbers: the rule is fair
abbrev pub WholeFair : Type 0
WholeFair = (l : Line) (scale : ℕ) (per : ℕ → ℕ) → AllDivide l scale per → FairWhole l scale (whole_rule l per)

-- in whole numbers: any two fair rules give every farm the same share, for all costs, over any one scale
abbrev pub WholeNoOther : Type 0
WholeNoOther =
    (l : Line) (scale : ℕ) (r q : ScaledRule) → AllUsed l → FairWhole l scale r → FairWhole l scale q →
    (c : Costs) (i : ℕ) → i < l.farms → r c i ≡ q c i

-- in whole numbers: so every fair rule gives the shares of the rule
abbrev pub WholeEvery : Type 0
WholeEvery =
    (l : Line) (scale : ℕ) (per : ℕ → ℕ) → AllUsed l → AllDivide l scale per → (r : ScaledRule) → FairWhole l scale r →
    (c : Costs) (i : ℕ) → i < l.farms → r c i ≡ whole_rule l per c i

-- in whole numbers: no group of farms pays more than the parts that one of it uses cost
abbrev pub WholeNobodyLeaves : Type 0
WholeNobodyLeaves =
    (l : Line) (scale : ℕ) (per : ℕ → ℕ) → AllDivide l scale per → (c : Costs) (g : Group) →
    group_sum l g (whole_rule l per c) ≤ scale * alone l g c

-- whole numbers that are computed over a scale are what every fair rule gives, and no group pays more than the parts that one of it uses cost
abbrev pub SharesRight : Type 0
SharesRight =
    (l : Line) (c : Costs) (scale : ℕ) (per v : ℕ → ℕ) → AllUsed l → Scale l (once l) c scale per →
    ((i : ℕ) → i < l.farms → v i ≡ scaled l (once l) per c i) → Shares l c scale v

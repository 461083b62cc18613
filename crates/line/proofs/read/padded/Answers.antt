use Rattle.std.proofs.Common.{◌≡◌, ℕ, zero, suc, ◌+◌, ◌<◌, List, get_or, ap, ◌∙◌, subst, arith, rules, tests}
use denote.Param.Members.{Mut, Called}
use Rattle.std.specs.Array.{IsFromFnResultFrom}
use Rattle.std.proofs.lemmas.List.{get_or-take}
use Rattle.line.proofs.read.padded.Goals as goal

-- what a closure that changes nothing gives at each place
made : {F : Type 0} (g : Mut F (ℕ × Unit {0}) ℕ) (f : F) (h : ℕ → ℕ) → ((i y : ℕ) (q : F) → Called g f (i, tt) y q → (y ≡ h i) × (q ≡ f)) →
    (ys : List ℕ) (n i j k : ℕ) → IsFromFnResultFrom g f ys i n → i + j ≡ k → j < n → get_or ys k 0 ≡ h k
made g f h one ys zero i j k each e l = absurd (omega arith)
made g f h one ys (suc n) i zero k (q, y, at, call, rest) e l =
    let same : k ≡ i = omega arith in
    cc (at.1 0, (one i y q call).0)
made g f h one ys (suc n) i (suc j) k (q, y, at, call, rest) e l =
    made g f h one ys n (i + 1) j k (subst (λ p. IsFromFnResultFrom g p ys (i + 1) n) (one i y q call).1 rest) (omega arith) (omega arith)

pub returns-in-Some : goal.returns-in-Some
returns-in-Some c j h = ap (λ ys. get_or ys j 0) c.in-Some.ensures.cases.same ∙ get_or-take 8 c.args.bytes.now j 0 h

pub returns-in-None : goal.returns-in-None
returns-in-None c j h = made _ _ (λ i. get_or c.args.bytes.now i 0) (λ i y q k. search (rules, tests)) c.from_fn.result 8 0 j j c.from_fn.ensures.items.each (omega arith) h

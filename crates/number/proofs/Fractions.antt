-- Fractions are a commutative monoid in which a positive factor cancels.
use Rattle.std.proofs.Common.{◌≡◌, ℕ, suc, pred, ◌+◌, ◌*◌, ◌<◌, ◌≤◌, ℤ, pos, ◌+ℤ◌, ◌*ℤ◌, ◌≤ℤ◌, sym, refl, ap, ◌∙◌, subst, ap₂, subst₂, mul-le-mul_right, arith}
use borrow.Author.Differences.{ints}
use lib.IntN.{*ℤ_comm, zero-*ℤ, +ℤ_idl}
use lib.Signed.{≤ℤ_refl}
use Rattle.number.specs.Fraction.{Fraction, over, ◌≈◌, ◌≼◌, ◌⊕◌, times}
use Rattle.number.proofs.Integers.{mul_assoc, cancel, cancel_le, mul-le, add_le, one-mul, ring}

infixr 30 ◌then◌
-- identities of integers
turn : (a b c : ℤ) → a *ℤ b *ℤ c ≡ a *ℤ c *ℤ b
turn a b c = simp ring

z_comm : (x p y q : ℤ) → (x *ℤ q +ℤ y *ℤ p) *ℤ (q *ℤ p) ≡ (y *ℤ p +ℤ x *ℤ q) *ℤ (p *ℤ q)
z_comm x p y q = simp ring

z_assoc : (x p y q z r : ℤ) → ((x *ℤ q +ℤ y *ℤ p) *ℤ r +ℤ z *ℤ (p *ℤ q)) *ℤ (p *ℤ (q *ℤ r)) ≡ (x *ℤ (q *ℤ r) +ℤ (y *ℤ r +ℤ z *ℤ q) *ℤ p) *ℤ (p *ℤ q *ℤ r)
z_assoc x p y q z r = simp ring

z_times : (n x p y q : ℤ) → n *ℤ (x *ℤ q +ℤ y *ℤ p) *ℤ (p *ℤ q) ≡ (n *ℤ x *ℤ q +ℤ n *ℤ y *ℤ p) *ℤ (p *ℤ q)
z_times n x p y q = simp ring

z_split : (m n x p : ℤ) → (m +ℤ n) *ℤ x *ℤ (p *ℤ p) ≡ (m *ℤ x *ℤ p +ℤ n *ℤ x *ℤ p) *ℤ p
z_split m n x p = simp ring

z_spread : (x p y q p' q' : ℤ) → (x *ℤ q +ℤ y *ℤ p) *ℤ (p' *ℤ q') ≡ x *ℤ p' *ℤ (q *ℤ q') +ℤ y *ℤ q' *ℤ (p *ℤ p')
z_spread x p y q p' q' = simp ring

z_gather : (x p y q p' q' : ℤ) → x *ℤ p' *ℤ (q' *ℤ q) +ℤ y *ℤ q' *ℤ (p' *ℤ p) ≡ (x *ℤ q +ℤ y *ℤ p) *ℤ (p' *ℤ q')
z_gather x p y q p' q' = simp ring

z_none : (x y p q : ℤ) → x ≡ pos 0 → (x *ℤ q +ℤ y *ℤ p) *ℤ q ≡ y *ℤ (p *ℤ q)
z_none x y p q e = ap (λ z. (z +ℤ y *ℤ p) *ℤ q) (ap (λ z. z *ℤ q) e ∙ zero-*ℤ q) ∙ ap (λ z. z *ℤ q) (+ℤ_idl (y *ℤ p)) ∙ mul_assoc y p q

-- the laws
pub same_refl : {a : Fraction} → a ≈ a
same_refl = record { crossed = refl }

pub same_sym : {a b : Fraction} → a ≈ b → b ≈ a
same_sym e = record { crossed = sym e.crossed }

pub ◌then◌ : {a b c : Fraction} → a ≈ b → b ≈ c → a ≈ c
◌then◌ {a} {b} {c} e f = record {
  crossed = cancel b.bottom _ _ b.positive
      (turn a.top (pos c.bottom) (pos b.bottom) ∙ ap (λ z. z *ℤ pos c.bottom) e.crossed ∙ turn b.top (pos a.bottom) (pos c.bottom)
      ∙ ap (λ z. z *ℤ pos a.bottom) f.crossed ∙ turn c.top (pos b.bottom) (pos a.bottom));
}

pub add_same : {a a' b b' : Fraction} → a ≈ a' → b ≈ b' → a ⊕ b ≈ a' ⊕ b'
unfolding ◌⊕◌
add_same {a} {a'} {b} {b'} e f =
    record {
      crossed =
          z_spread a.top (pos a.bottom) b.top (pos b.bottom) (pos a'.bottom) (pos b'.bottom)
          ∙ ap₂ (λ x y. x *ℤ pos (b.bottom * b'.bottom) +ℤ y *ℤ pos (a.bottom * a'.bottom)) e.crossed f.crossed
          ∙ z_gather a'.top (pos a'.bottom) b'.top (pos b'.bottom) (pos a.bottom) (pos b.bottom);
    }

pub add_comm : (a b : Fraction) → a ⊕ b ≈ b ⊕ a
unfolding ◌⊕◌
add_comm a b = record { crossed = z_comm a.top (pos a.bottom) b.top (pos b.bottom) }

pub add_assoc : (a b c : Fraction) → a ⊕ b ⊕ c ≈ a ⊕ (b ⊕ c)
unfolding ◌⊕◌
add_assoc a b c = record { crossed = z_assoc a.top (pos a.bottom) b.top (pos b.bottom) c.top (pos c.bottom) }

pub nothing_add : (a : Fraction) → over 0 1 ⊕ a ≈ a
unfolding ◌⊕◌ over
nothing_add a = record { crossed = z_none (pos 0) a.top (pos 1) (pos a.bottom) refl }

pub times_add : (n : ℕ) (a b : Fraction) → times n (a ⊕ b) ≈ times n a ⊕ times n b
unfolding ◌⊕◌ times
times_add n a b = record { crossed = z_times (pos n) a.top (pos a.bottom) b.top (pos b.bottom) }

pub split_times : (m n : ℕ) (a : Fraction) → times (m + n) a ≈ times m a ⊕ times n a
unfolding ◌⊕◌ times
split_times m n a = record { crossed = z_split (pos m) (pos n) a.top (pos a.bottom) }

pub times_one : (a : Fraction) → times 1 a ≈ a
unfolding times
times_one a = record { crossed = ap (λ z. z *ℤ pos a.bottom) (one-mul a.top) }

pub times_same : (n : ℕ) {a b : Fraction} → a ≈ b → times n a ≈ times n b
unfolding times
times_same n {a} {b} e = record { crossed = mul_assoc (pos n) a.top (pos b.bottom) ∙ ap (λ z. pos n *ℤ z) e.crossed ∙ sym (mul_assoc (pos n) b.top (pos a.bottom)) }

pub times_cancel : (n : ℕ) (a b : Fraction) → 0 < n → times n a ≈ times n b → a ≈ b
unfolding times
times_cancel n a b h e = record {
  crossed = cancel n _ _ h
      (*ℤ_comm _ (pos n) ∙ sym (mul_assoc (pos n) a.top (pos b.bottom)) ∙ e.crossed ∙ mul_assoc (pos n) b.top (pos a.bottom) ∙ *ℤ_comm (pos n) _);
}

pub no_times : (a : Fraction) → times 0 a ≈ over 0 1
unfolding times over
no_times a = record { crossed = ap (λ z. z *ℤ pos 1) (zero-*ℤ a.top) ∙ sym (zero-*ℤ (pos a.bottom)) }

pub times_none : (n : ℕ) (a : Fraction) → n ≡ 0 → times n a ≈ over 0 1
times_none n a e = subst (λ z. times z a ≈ over 0 1) (sym e) (no_times a)

pub times_nothing : (n : ℕ) → times n (over 0 1) ≈ over 0 1
unfolding times over
times_nothing n = record { crossed = ap pos (omega arith) }

pub over_same : (a b d : ℕ) → a ≡ b → over a d ≈ over b d
over_same a b d e = subst (λ z. over a d ≈ over z d) e same_refl

pub times_over : (n a b : ℕ) → times n (over a b) ≡ over (n * a) b
unfolding times over
times_over n a b = refl

pub over_add : (a b d : ℕ) → over a d ⊕ over b d ≈ over (a + b) d
unfolding ◌⊕◌ over
over_add a b d = record { crossed = ap pos (omega arith) }

pub over_none : (d : ℕ) → over 0 d ≈ over 0 1
unfolding over
over_none d = record { crossed = ap pos (omega arith) }

-- n wholes of n parts each
pub over_whole : (a d : ℕ) → 0 < d → over (d * a) d ≈ over a 1
unfolding over
over_whole a d h = record { crossed = ap pos (let e : suc (pred d) ≡ d = omega arith in rw e (omega arith)) }

-- the order
pub le_same : {a b : Fraction} → a ≈ b → a ≼ b
le_same {a} {b} e = record { crossed = subst (λ z. (a.top *ℤ pos b.bottom) ≤ℤ z) e.crossed (≤ℤ_refl (a.top *ℤ pos b.bottom)) }

pub le_trans : {a b c : Fraction} → a ≼ b → b ≼ c → a ≼ c
le_trans {a} {b} {c} e f = record {
  crossed = cancel_le b.bottom _ _ b.positive (omega (
    arith,
    ints,
    mul-le c.bottom _ _ e.crossed,
    mul-le a.bottom _ _ f.crossed,
    turn a.top (pos c.bottom) (pos b.bottom),
    turn b.top (pos a.bottom) (pos c.bottom),
    turn c.top (pos b.bottom) (pos a.bottom),
  ));
}

pub over_le : (a b d : ℕ) → a ≤ b → over a d ≼ over b d
unfolding over
over_le a b d h = record { crossed = omega (arith, ints, mul-le-mul_right (suc (pred d)) h) }

pub le_add : {a a' b b' : Fraction} → a ≼ a' → b ≼ b' → a ⊕ b ≼ a' ⊕ b'
unfolding ◌⊕◌
le_add {a} {a'} {b} {b'} e f =
    record {
      crossed = subst₂ (λ x y. x ≤ℤ y)
          (sym (z_spread a.top (pos a.bottom) b.top (pos b.bottom) (pos a'.bottom) (pos b'.bottom)))
          (z_gather a'.top (pos a'.bottom) b'.top (pos b'.bottom) (pos a.bottom) (pos b.bottom))
          (add_le (mul-le (b.bottom * b'.bottom) _ _ e.crossed) (mul-le (a.bottom * a'.bottom) _ _ f.crossed));
    }

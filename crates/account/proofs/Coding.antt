-- Seven bytes mean a booking exactly if they are its bytes.
use Rattle.std.proofs.Common.{◌≡◌, ℕ, ◌+◌, ◌*◌, ◌/◌, ◌%◌, ◌<◌, List, [], ◌∷◌, ◌++◌, length, get_or, Some, sym, refl, ap, ◌∙◌, subst, ap₂, arith}
use Rattle.std.proofs.lemmas.List.FromFn.{fill_by_all}
use Rattle.std.proofs.lemmas.Bool.Decides.{nat_tests}
use Rattle.account.specs.Bytes.{four_at, four}
use Rattle.account.specs.declared.booking.Booking.{Booking}
use Rattle.account.specs.declared.booking.Booking.TheVariants.{Cost, Payment, Closing}
use Rattle.line.specs.Bytes.{two, two_at}
use Rattle.account.specs.Booking.{bytes_of, booking, meant, Right}

-- two bytes, and four, are those of the number in them
two_back : (x y : ℕ) → x < 256 → two (x + y * 256) ≡ x ∷ y ∷ []
two_back x y h = ap₂ (λ p q. p ∷ q ∷ []) (omega arith) (omega arith)

four_back : (x y z t : ℕ) → x < 256 → y < 256 → z < 256 → four (x + y * 256 + (z + t * 256) * 65536) ≡ x ∷ y ∷ z ∷ t ∷ []
four_back x y z t h g f =
    let low : (x + y * 256 + (z + t * 256) * 65536) % 65536 ≡ x + y * 256 = omega arith in
    let high : (x + y * 256 + (z + t * 256) * 65536) / 65536 ≡ z + t * 256 = omega arith in
    ap₂ (λ p q. p ++ q) (ap two low ∙ two_back x y h) (ap two high ∙ two_back z t f)

-- a number is the one in its own two bytes, and in its four
two_whole : (n : ℕ) → two_at (two n) 0 ≡ n
two_whole n = omega arith

four_whole : (n : ℕ) → four_at (four n) 0 ≡ n
four_whole n = omega arith

-- the bytes of a booking mean it
whole : (x : Booking) → meant (bytes_of x) ≡ Some x
unfolding meant
whole (Cost p c) = ap₂ (λ w v. Some (Cost (record { 0 = w }) (record { 0 = v }))) (two_whole p.0) (four_whole c.0)
whole (Payment f c) = ap₂ (λ w v. Some (Payment (record { 0 = w }) (record { 0 = v }))) (two_whole f.0) (four_whole c.0)
whole Closing = refl

-- a booking's bytes are those of its kind and its two numbers
spelled : (k w c : ℕ) (x : Booking) → booking k w c ≡ Some x → k ∷ (two w ++ four c) ≡ bytes_of x
spelled k w c (Cost p q) h = grind (arith, nat_tests)
spelled k w c (Payment f q) h = grind (arith, nat_tests)
spelled k w c Closing h = grind (arith, nat_tests)

-- seven bytes are those of the numbers in them
back : (b : List ℕ) → ((k : ℕ) → get_or b k 0 < 256) → length b ≡ 7 → b ≡ get_or b 0 0 ∷ (two (two_at b 1) ++ four (four_at b 3))
back b fits long =
    fill_by_all (λ k. get_or b k 0) b 7 0 long (λ k l. refl)
    ∙ sym (ap₂ (λ p q. get_or b 0 0 ∷ (p ++ q)) (two_back (get_or b 1 0) (get_or b 2 0) (fits 1)) (four_back (get_or b 3 0) (get_or b 4 0) (get_or b 5 0) (get_or b 6 0) (fits 3) (fits 4) (fits 5)))

pub right : (b : List ℕ) → ((k : ℕ) → get_or b k 0 < 256) → Right b
unfolding meant
right b fits =
    record {
      sound = λ long x h. back b fits long ∙ spelled (get_or b 0 0) (two_at b 1) (four_at b 3) x h;
      whole = λ x e. subst (λ a. meant a ≡ Some x) (sym e) (whole x);
    }

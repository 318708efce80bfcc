-- What is decoded spells the word again.
use Rattle.std.proofs.Common.{◌≡◌, ℕ, ◌+◌, ◌-◌, ◌*◌, ◌/◌, ◌%◌, ◌<◌, ◌==◌, Bool, true, ◌||◌, nat_le, List, [], ◌∷◌, length, slice_index, slice_index_or, Some, Result, Ok, Err, refl, sym, ap, ◌∙◌, arith}
use Rattle.std.specs.Prelude.{not, if◌then◌else◌}
use Rattle.std.proofs.lemmas.Bool.{agree_below_at, eqb-true}
use Rattle.std.proofs.lemmas.List.Elements.{All-head, All-tail}
use Rattle.std.specs.List.{AllPass}
use Rattle.std.specs.Result.{result_unwrap_or}
use Rattle.hex.specs.Hex.{decode_pairs, decode_sized, digit_or_error, hex_digit_value, encode_lower, encode_with, is_hex_digit, lower_digits, pair_value, value_at}
use Rattle.hex.specs.declared.error.FromHexError.{FromHexError}
use Rattle.hex.proofs.HexLemmas.{decode_of-digits, decode_of-even, decode_sized-twice}
use Rattle.hex.proofs.Pairs.{cons_byte, decode_pairs-ok_pair}
use Rattle.hex_words.specs.Spelling.{Accepted, is_digit}

abbrev holds : ℕ → Type 0
holds c = is_digit c ≡ true

-- the value of a digit in lower case
abbrev value : ℕ → ℕ
value c = if nat_le c 57 then c - 48 else c - 87

value-small : (c : ℕ) → is_digit c ≡ true → value c < 16
value-small c h = grind (arith)

value-read : (c : ℕ) → is_digit c ≡ true → hex_digit_value c ≡ Some (value c)
value-read c h = grind (arith)

-- the table gives the digit back: a test that computes
abbrev gives_back : ℕ → Bool
gives_back c = not (is_digit c) || slice_index lower_digits (value c) == c

gives_back-below : (c : ℕ) → c < 103 → gives_back c ≡ true
gives_back-below c lt = agree_below_at gives_back (λ _. true) 103 c refl lt

digit-below : (c : ℕ) → is_digit c ≡ true → c < 103
digit-below c h = grind (arith)

value-spelled : (c : ℕ) → is_digit c ≡ true → slice_index lower_digits (value c) ≡ c
value-spelled c h =
    let test = gives_back-below c (digit-below c h) in
    eqb-true (slice_index lower_digits (value c)) c (rw h at test)

cons-ok : (v : ℕ) (r : Result (List ℕ) FromHexError) (bytes : List ℕ) → cons_byte v r ≡ Ok bytes
    → (rest : List ℕ) × (r ≡ Ok rest) × (v ∷ rest ≡ bytes)
cons-ok v (Ok rest) bytes h = (rest, refl, ap (λ (r : Result (List ℕ) FromHexError). result_unwrap_or r []) h)
cons-ok v (Err e) bytes h = cc h

pub spelled : (i : ℕ) (s bytes : List ℕ) → decode_pairs i s ≡ Ok bytes → AllPass is_digit s → encode_lower bytes ≡ s
unfolding decode_pairs encode_with
spelled i [] bytes h d =
    let e : [] ≡ bytes = ap (λ (r : Result (List ℕ) FromHexError). result_unwrap_or r []) h in
    rw (← e) refl
spelled i (a ∷ []) bytes h d = cc h
spelled i (a ∷ b ∷ rest) bytes h d =
    let tail = All-tail holds a (b ∷ rest) d in
    let da = All-head holds a (b ∷ rest) d in
    let db = All-head holds b rest tail in
    let sa = value-small a da in
    let sb = value-small b db in
    let ra : value_at a i ≡ Ok (value a) = ap (digit_or_error a i) (value-read a da) in
    let rb : value_at b (i + 1) ≡ Ok (value b) = ap (digit_or_error b (i + 1)) (value-read b db) in
    let pair : pair_value a b i ≡ Ok (value a * 16 + value b) = rw (ra, rb) refl in
    let parts = cons-ok (value a * 16 + value b) (decode_pairs (i + 2) rest) bytes (sym (decode_pairs-ok_pair i a b _ rest pair) ∙ h) in
    let ih = spelled (i + 2) rest parts.0 parts.1 (All-tail holds b rest tail) in
    let high : (value a * 16 + value b) / 16 ≡ value a = omega arith in
    let low : (value a * 16 + value b) % 16 ≡ value b = omega arith in
    rw (← parts.2, high, low, value-spelled a da, value-spelled b db, ih) refl

-- a digit in lower case is one in either
any_case : (c : ℕ) → is_digit c ≡ true → is_hex_digit c ≡ true
any_case c h = rw (value-read c h) refl

-- what is accepted has bytes, and they spell it
pub accepted : (most : ℕ) (word : List ℕ) → Accepted most word
    → (bytes : List ℕ) × (decode_sized word (length word / 2) ≡ Ok bytes) × (encode_lower bytes ≡ word)
accepted most word a =
    let twice : length word ≡ 2 * (length word / 2) = omega (arith, a.1) in
    let found = decode_of-digits word a.1 (λ k d lt. any_case (slice_index_or word k d) (a.3 k d lt)) in
    let sized = decode_sized-twice word (length word / 2) twice in
    (found.0, sized ∙ found.1, spelled 0 word found.0 (sym (decode_of-even word a.1) ∙ found.1) a.3)

-- How a word of a text spells bytes.
--     is_digit       whether a byte of the text is a hex digit, in lower case
--     Spelled        the word is some bytes' two digits each
--     Accepted n     it is that, of one byte to n
-- Assumes nothing.
use Rattle.std.specs.Prelude.{◌≡◌, Bool, ◌&&◌, ◌||◌, nat_le, ℕ, ◌≤◌, ◌<◌, ◌%◌, ◌/◌, List, length}
use Rattle.std.specs.List.{AllPass}
use Rattle.hex.specs.Hex.{encode_lower}

-- `0` to `9` are 48 to 57, and `a` to `f` are 97 to 102
abbrev pub is_digit : ℕ → Bool
is_digit c = (nat_le 48 c && nat_le c 57) || (nat_le 97 c && nat_le c 102)

abbrev pub Spelled : List ℕ → List ℕ → Type 0
Spelled word bytes = word ≡ encode_lower bytes

abbrev pub Accepted : ℕ → List ℕ → Type 0
Accepted most word = (0 < length word) × (length word % 2 ≡ 0) × (length word / 2 ≤ most) × AllPass is_digit word

-- The words that are arguments of a function: `i32:N` and `i64:N`. `IsArgument` is their grammar, and `argument_in` computes
-- what it says.
use Rattle.std.specs.Prelude.{Bool, MatchOption, ◌^◌, cond, drop, not, nat_eq, nat_le, nat_lt, slice_index, ◌==◌, ◌&&◌, ◌≡◌, ◌≤◌, ◌⊎◌, ℕ, ℤ, pos, neg_ℤ, negsuc, List, [], ◌∷◌, ◌++◌, length, Option, None, Some, codes, FitsSigned, if◌then◌else◌, option_and_then, option_map}
use Rattle.std.specs.List.{starts_with}
use Rattle.std.specs.Str.Parse.{IsNumeral, digits_value, signed_digits_value, starts_with_minus, without_leading_sign}
use Rattle.clap.specs.ValueTests.{is_numeral}
use Rattle.command_words.specs.declared.argument.Argument.{Argument}
use Rattle.command_words.specs.declared.argument.Argument.TheVariants.{I32, I64}
use mir.Syntax.{Width, w32, w64}
use mir.Val.{hbits}

-- from 1 to 20 decimal digits
abbrev pub IsDigits : List ℕ → Type 0
IsDigits ds = IsNumeral 10 ds × (length ds ≤ 20)

-- digits, or a minus (45) and digits, write the number
abbrev pub Writes : List ℕ → ℤ → Type 0
Writes text n = (IsDigits text × (n ≡ pos (digits_value 10 text))) ⊎ ((ds : List ℕ) × (text ≡ 45 ∷ ds) × IsDigits ds × (n ≡ neg_ℤ (pos (digits_value 10 ds))))

-- the number that the text writes, of the signed type; or it writes none
abbrev pub ReadsNumber : Width → List ℕ → Option ℤ → Type 0
ReadsNumber w text r = MatchOption r ((n : ℤ) → Writes text n → FitsSigned w n → ⊥) (λ n. Writes text n × FitsSigned w n)

-- the prefix, and a number of the signed type
abbrev pub IsNumberAfter : List ℕ → Width → List ℕ → ℤ → Type 0
IsNumberAfter front w word n = (text : List ℕ) × (word ≡ front ++ text) × Writes text n × FitsSigned w n

abbrev pub IsArgument : List ℕ → Argument → Type 0
IsArgument word (I32 n) = IsNumberAfter (codes "i32:") w32 word n
IsArgument word (I64 n) = IsNumberAfter (codes "i64:") w64 word n

-- the argument, or there is none
abbrev pub ReadsArgument : List ℕ → Option Argument → Type 0
ReadsArgument word (Some a) = IsArgument word a
ReadsArgument word None = (a : Argument) → IsArgument word a → ⊥

-- the words are these arguments, one by one
abbrev pub AreArguments : List (List ℕ) → List Argument → Type 0
AreArguments [] [] = Unit {0}
AreArguments (word ∷ words) (a ∷ rest) = IsArgument word a × AreArguments words rest
AreArguments _ _ = ⊥

-- ---- the same, as functions

-- the text begins with no plus (43), and has at most 20 bytes after a minus
abbrev pub is_plain : List ℕ → Bool
is_plain text = not (slice_index text 0 == 43) && nat_le (length (cond (starts_with_minus text) (drop 1 text) text)) 20

-- the number is one of the signed type
abbrev pub fits : Width → ℤ → Bool
fits w (pos n) = nat_lt n (2 ^ hbits w)
fits w (negsuc n) = nat_lt n (2 ^ hbits w)

-- the number of the signed type that the text writes
abbrev pub number_of : Width → List ℕ → Option ℤ
number_of w text =
    let n = signed_digits_value 10 text in
    if is_plain text && (is_numeral (without_leading_sign text) && fits w n) then Some n else None

abbrev pub argument_in : List ℕ → Option Argument
argument_in word =
    if starts_with nat_eq word (codes "i32:") then option_map I32 (number_of w32 (drop 4 word))
    else (if starts_with nat_eq word (codes "i64:") then option_map I64 (number_of w64 (drop 4 word)) else None)

-- the arguments that the words are, where each is one
abbrev pub arguments_in : List (List ℕ) → Option (List Argument)
arguments_in [] = Some []
arguments_in (word ∷ words) = option_and_then (λ a. option_map (λ rest. a ∷ rest) (arguments_in words)) (argument_in word)

-- The number that is read of an option is the one that its text encodes.
use Rattle.std.proofs.Common.{◌≡◌, ◌∙◌, ◌^◌, ℕ, Bool, true, false, List, Option, Some, None, refl, sym, ap, arith}
use Rattle.std.specs.Prelude.{◌&&◌, cond, nat_le, nat_lt, option_and_then, Result, Ok, Err}
use Rattle.std.specs.Str.Parse.{ParsesUnsigned, digits_value, without_leading_plus}
use Rattle.clap.specs.Matches.{ReadsOne, one_text}
use Rattle.clap.specs.Walk.{Text, one_of, rows_of}
use Rattle.clap.specs.ValueTests.{is_numeral, is_unsigned_in}
use Rattle.clap.specs.declared.builder.value_parser.ValueParser.TheVariants as parser
use Rattle.clap.specs.declared.parser.matches.Found.{Found}
use Rattle.clap.proofs.ValueTestLemmas.{Accepts-accepts, accepts-Accepts}
use Rattle.clap.proofs.WalkLemmas.{both, one_text-rows}
use Rattle.command_words.specs.Grammar.{in_range, is_short, number_in, short_number}

first_two : (a b c : Bool) → (a && (b && c)) ≡ true → (a ≡ true) × (b ≡ true)
first_two a b c e =
    let front = both a (b && c) e in
    (front.0, (both b c front.1).0)

-- `Gives` is what `from_str` gives for a `u64`
module _ (E : Type 0) (Gives : List ℕ → Result ℕ E → Type 0) (parses : (bs : List ℕ) (r : Result ℕ E) → Gives bs r → ParsesUnsigned 64 10 bs r) where
  of_text : (least most : ℕ) (t : Text) (r : Option ℕ) → ReadsOne Gives t r → option_and_then (in_range least most) r ≡ number_in least most t
  of_text least most t None h = go (is_unsigned_in least most t) refl
    where
      go : (b : Bool) → is_unsigned_in least most t ≡ b → None ≡ cond b (Some (digits_value 10 (without_leading_plus t))) None
      go true e =
          let a = accepts-Accepts false (parser.Unsigned least most) t e in
          absurd (parses t (Err h.0) h.1 (a.0, a.1))
      go false e = refl
  of_text least most t (Some n) h =
      let parsed = parses t (Ok n) h in
      let value = digits_value 10 (without_leading_plus t) in
      let passed = Accepts-accepts false (parser.Unsigned 0 value) t (parsed.0.0, parsed.0.1, omega arith, omega arith) in
      let front = first_two (is_numeral (without_leading_plus t)) (nat_lt value (2 ^ 64)) (nat_le 0 value && nat_le value value) passed in
      rw (front.0, front.1, parsed.1) refl

  pub number_is : (f : Found) (id : Text) (least most : ℕ) (r : Option ℕ) → (one_text f id ≡ None → r ≡ None)
      → ((t : Text) → one_text f id ≡ Some t → ReadsOne Gives t r)
      → option_and_then (in_range least most) r ≡ option_and_then (number_in least most) (one_of id (rows_of f))
  number_is f id least most r none some = go (one_text f id) refl ∙ ap (option_and_then (number_in least most)) (one_text-rows f id)
    where
      go : (o : Option Text) → one_text f id ≡ o → option_and_then (in_range least most) r ≡ option_and_then (number_in least most) o
      go None e = ap (option_and_then (in_range least most)) (none e)
      go (Some t) e = of_text least most t r (some t e)

-- what a text was parsed to
abbrev pub parsed : {E : Type 0} → Result ℕ E → Option ℕ
parsed (Ok n) = Some n
parsed (Err e) = None

pub of_parse : {E : Type 0} (least most : ℕ) (t : Text) (r : Result ℕ E) → ParsesUnsigned 64 10 t r → option_and_then (in_range least most) (parsed r) ≡ number_in least most t
of_parse {E} least most t (Ok n) h = of_text E (λ bs r. ParsesUnsigned 64 10 bs r) (λ bs r g. g) least most t (Some n) h
of_parse {E} least most t (Err e) h = of_text E (λ bs r. ParsesUnsigned 64 10 bs r) (λ bs r g. g) least most t None (e, h)

pub short_is : (least most : ℕ) (t : Text) (r : Option ℕ) → is_short t ≡ true → r ≡ number_in least most t → r ≡ short_number least most t
short_is least most t r short is = is ∙ ap (λ b. cond b (number_in least most t) None) (sym short)

-- What a reading of words says.
use Rattle.std.proofs.Common.{◌≡◌, ◌∙◌, ◌⊎◌, ◌≤◌, ℕ, Bool, true, false, List, [], ◌∷◌, Option, Some, None, refl, ap, arith, inl, inr, slice_index, subst, sym, true≢false}
use Rattle.std.specs.Prelude.{◌≢◌, ◌||◌, ◌==◌, Any, codes, cond, option_and_then, option_map, unwrap_or}
use Rattle.std.specs.List.{before_first, after_first}
use Rattle.std.specs.Str.{bytes_eq}
use Rattle.std.specs.Str.Parse.{digits_value, without_leading_plus}
use Rattle.std.proofs.lemmas.Slice.Eq.{bytes_eq-Decides}
use Rattle.clap.specs.Walk.{Row, Text, first_of, one_of}
use Rattle.clap.specs.Kinds.{Kinds}
use Rattle.clap.specs.ValueTests.{is_unsigned_in}
use Rattle.clap.specs.declared.builder.value_parser.ValueParser.TheVariants as parser
use Rattle.clap.proofs.ValueTestLemmas.{accepts-Accepts}
use Rattle.command_words.specs.Arguments.{AreArguments, arguments_in}
use Rattle.command_words.specs.Grammar.{AreInRange, IsCallInRange, IsInRange, IsNoArgument, IsNoCall, IsPeekInRange, call_in, call_of, call_words, found_words, command_named, command_without, drill_in, drill_of, found_peek, number_in, options_in, options_of, is_short, peek_in, peek_of, peek_said, run_in, run_of, short_number}
use Rattle.command_words.specs.declared.argument.Argument.{Argument}
use Rattle.command_words.specs.declared.command.Call.{Call}
use Rattle.command_words.specs.declared.command.Command.{Command}
use Rattle.command_words.specs.declared.command.Command.TheVariants as command
use Rattle.command_words.specs.declared.command.Drill.{Drill}
use Rattle.command_words.specs.declared.command.Options.{Options}
use Rattle.command_words.specs.declared.command.Run.{Run}
use Rattle.command_words.specs.declared.peek.Peek.{Peek}
use Rattle.command_words.proofs.ArgumentWords.{are_arguments, no_other}

some≢none : {X : Type 0} (x : X) → ◌≡◌ {A = Option X} None (Some x) → ⊥
some≢none x e = cc

pub same_some : {X : Type 0} (o : Option X) (a b : X) → o ≡ Some a → o ≡ Some b → a ≡ b
same_some o a b e f = ap (λ x. unwrap_or x a) (sym e ∙ f)

pub not_both : {X : Type 0} (o : Option X) (a : X) → o ≡ Some a → o ≡ None → ⊥
not_both o a e f = some≢none a (sym f ∙ e)

bounds : (least most : ℕ) (t : Text) (n : ℕ) → number_in least most t ≡ Some n → (least ≤ n) × (n ≤ most)
bounds least most t n is = go (is_unsigned_in least most t) refl is
  where
    go : (b : Bool) → is_unsigned_in least most t ≡ b → cond b (Some (digits_value 10 (without_leading_plus t))) None ≡ Some n → (least ≤ n) × (n ≤ most)
    go true e is =
        let a = accepts-Accepts false (parser.Unsigned least most) t e in
        let same : digits_value 10 (without_leading_plus t) ≡ n = ap (λ o. unwrap_or o 0) is in
        rw (← same) (a.2, a.3)
    go false e is = absurd (some≢none n is)

found_bounds : (least most : ℕ) (o : Option Text) (n : ℕ) → option_and_then (number_in least most) o ≡ Some n → (least ≤ n) × (n ≤ most)
found_bounds least most None n e = absurd (some≢none n e)
found_bounds least most (Some t) n e = bounds least most t n e

split : (w b : Option ℕ) (o : Options) → options_of w b ≡ Some o → (w ≡ Some o.workers) × (b ≡ Some o.batch)
split None b o e = absurd (some≢none o e)
split (Some x) None o e = absurd (some≢none o e)
split (Some x) (Some y) o e = (ap (option_map (λ (z : Options). z.workers)) e, ap (option_map (λ (z : Options). z.batch)) e)

options_bounds : (rows : List Row) (o : Options) → options_in rows ≡ Some o → AreInRange o
options_bounds rows o e =
    let parts = split _ _ o e in
    let w = found_bounds 0 64 (one_of (codes "workers") rows) o.workers parts.0 in
    let b = found_bounds 1 1048576 (one_of (codes "batch") rows) o.batch parts.1 in
    (w.1, b.0, b.1)

-- what a call is read of
record IsCallOf (l : Option (List Argument)) (n : Option ℕ) (p : Option (Option Peek)) (c : Call) : Type 0 where
  pub arguments : l ≡ Some c.arguments
  pub steps : n ≡ Some c.steps
  pub peek : p ≡ Some c.peek

call_parts_of : (e : Option Text) (l : Option (List Argument)) (n : Option ℕ) (p : Option (Option Peek)) (c : Call) → call_of e l n p ≡ Some c → IsCallOf l n p c
call_parts_of (Some e) (Some l) (Some n) (Some p) c is = record {
  arguments = ap (option_map (λ (x : Call). x.arguments)) is;
  steps = ap (option_map (λ (x : Call). x.steps)) is;
  peek = ap (option_map (λ (x : Call). x.peek)) is;
}
call_parts_of (Some e) (Some l) (Some n) None c is = absurd (some≢none c is)
call_parts_of (Some e) (Some l) None p c is = absurd (some≢none c is)
call_parts_of (Some e) None n p c is = absurd (some≢none c is)
call_parts_of None l n p c is = absurd (some≢none c is)

call_parts : (rows : List Row) (c : Call) → call_in rows ≡ Some c
    → IsCallOf (arguments_in (found_words rows)) (option_and_then (number_in 0 1000000000000) (one_of (codes "steps") rows)) (peek_said (found_peek rows)) c
call_parts rows c is = call_parts_of (first_of (codes "export") rows) (arguments_in (found_words rows)) (option_and_then (number_in 0 1000000000000) (one_of (codes "steps") rows)) (peek_said (found_peek rows)) c is

run_parts_of : (o : Option Options) (c : Option Call) (r : Run) → run_of o c ≡ Some r → (o ≡ Some r.options) × (c ≡ Some r.call)
run_parts_of (Some o) (Some c) r is = (ap (option_map (λ (x : Run). x.options)) is, ap (option_map (λ (x : Run). x.call)) is)
run_parts_of (Some o) None r is = absurd (some≢none r is)
run_parts_of None c r is = absurd (some≢none r is)

run_parts : (rows : List Row) (r : Run) → run_in rows ≡ Some r → (options_in rows ≡ Some r.options) × (call_in rows ≡ Some r.call)
run_parts rows r is = run_parts_of (options_in rows) (call_in rows) r is

drill_parts_of : (o : Option Options) (n s : Option ℕ) (d : Drill) → drill_of o n s ≡ Some d → (o ≡ Some d.options) × (n ≡ Some d.count) × (s ≡ Some d.steps)
drill_parts_of (Some o) (Some n) (Some s) d is = (
  ap (option_map (λ (x : Drill). x.options)) is,
  ap (option_map (λ (x : Drill). x.count)) is,
  ap (option_map (λ (x : Drill). x.steps)) is,
)
drill_parts_of (Some o) (Some n) None d is = absurd (some≢none d is)
drill_parts_of (Some o) None s d is = absurd (some≢none d is)
drill_parts_of None n s d is = absurd (some≢none d is)

drill_bounds : (rows : List Row) (d : Drill) → drill_in rows ≡ Some d → AreInRange d.options × (1 ≤ d.count) × (d.count ≤ 50000) × (d.steps ≤ 1000000000000)
drill_bounds rows d is =
    let n = one_of (codes "n") rows in
    let s = one_of (codes "steps") rows in
    let parts = drill_parts_of (options_in rows) (option_and_then (number_in 1 50000) n) (option_and_then (number_in 0 1000000000000) s) d is in
    let count = found_bounds 1 50000 n d.count parts.1 in
    let steps = found_bounds 0 1000000000000 s d.steps parts.2 in
    (options_bounds rows d.options parts.0, count.0, count.1, steps.1)

-- what a command is read of
abbrev IsRead : List Row → Command → Type 0
IsRead rows (command.Check o) = options_in rows ≡ Some o
IsRead rows (command.Compile o) = options_in rows ≡ Some o
IsRead rows (command.Many o) = options_in rows ≡ Some o
IsRead rows (command.Run r) = run_in rows ≡ Some r
IsRead rows (command.Exec c) = call_in rows ≡ Some c
IsRead rows (command.Drill d) = drill_in rows ≡ Some d

made_of : {X : Type 0} (make : X → Command) (P : Command → Type 0) (read x : Option X) (c : Command) → ((v : X) → read ≡ Some v → P (make v)) → read ≡ x → option_map make x ≡ Some c → P c
made_of make P read None c each is e = absurd (some≢none c e)
made_of make P read (Some v) c each is e = subst P (ap (λ y. unwrap_or y c) e) (each v is)

-- the command of a subcommand that has one of the six names, or none
abbrev by_name : Bool → Bool → Bool → Bool → Bool → Bool → List Row → Option Command
by_name check compile many run exec drill rows =
    cond check (option_map command.Check (options_in rows))
    (cond compile (option_map command.Compile (options_in rows)) (cond many (option_map command.Many (options_in rows))
    (cond run (option_map command.Run (run_in rows)) (cond exec (option_map command.Exec (call_in rows)) (cond drill (option_map command.Drill (drill_in rows)) None)))))

by_name_read : (check compile many run exec drill : Bool) (rows : List Row) (c : Command) → by_name check compile many run exec drill rows ≡ Some c → IsRead rows c
by_name_read true compile many run exec drill rows c e = made_of command.Check (IsRead rows) (options_in rows) (options_in rows) c (λ v is. is) refl e
by_name_read false true many run exec drill rows c e = made_of command.Compile (IsRead rows) (options_in rows) (options_in rows) c (λ v is. is) refl e
by_name_read false false true run exec drill rows c e = made_of command.Many (IsRead rows) (options_in rows) (options_in rows) c (λ v is. is) refl e
by_name_read false false false true exec drill rows c e = made_of command.Run (IsRead rows) (run_in rows) (run_in rows) c (λ v is. is) refl e
by_name_read false false false false true drill rows c e = made_of command.Exec (IsRead rows) (call_in rows) (call_in rows) c (λ v is. is) refl e
by_name_read false false false false false true rows c e = made_of command.Drill (IsRead rows) (drill_in rows) (drill_in rows) c (λ v is. is) refl e
by_name_read false false false false false false rows c e = absurd (some≢none c e)

named_read : (p : Text × List Row) (c : Command) → command_named p ≡ Some c → IsRead p.1 c
named_read p c e = by_name_read (bytes_eq p.0 (codes "check")) (bytes_eq p.0 (codes "compile")) (bytes_eq p.0 (codes "many")) (bytes_eq p.0 (codes "run")) (bytes_eq p.0 (codes "exec")) (bytes_eq p.0 (codes "drill")) p.1 c e

short_bounds : (least most : ℕ) (t : Text) (n : ℕ) → short_number least most t ≡ Some n → (least ≤ n) × (n ≤ most)
short_bounds least most t n is = go (is_short t) is
  where
    go : (b : Bool) → cond b (number_in least most t) None ≡ Some n → (least ≤ n) × (n ≤ most)
    go true is = bounds least most t n is
    go false is = absurd (some≢none n is)

some_of : {X : Type 0} (o : Option X) (x : X) → option_map Some o ≡ Some (Some x) → o ≡ Some x
some_of None x e = absurd (some≢none (Some x) e)
some_of (Some y) x e = ap (λ o. unwrap_or o None) e

peek_parts : (a n : Option ℕ) (p : Peek) → peek_of a n ≡ Some p → (a ≡ Some p.address) × (n ≡ Some p.count)
peek_parts (Some a) (Some n) p is = (ap (option_map (λ (x : Peek). x.address)) is, ap (option_map (λ (x : Peek). x.count)) is)
peek_parts (Some a) None p is = absurd (some≢none p is)
peek_parts None n p is = absurd (some≢none p is)

peek_bounds : (word : Option Text) (p : Option Peek) → peek_said word ≡ Some p → IsPeekInRange p
peek_bounds word None e = tt
peek_bounds None (Some p) e = absurd (some≢none p (ap (λ (o : Option (Option Peek)). unwrap_or o None) e))
peek_bounds (Some word) (Some p) e =
    let address = before_first (λ c. c == 58) word in
    let count = after_first (λ c. c == 58) word in
    let parts = peek_parts (short_number 0 4294967295 address) (short_number 1 4096 count) p (some_of (peek_in word) p e) in
    let a = short_bounds 0 4294967295 address p.address parts.0 in
    let n = short_bounds 1 4096 count p.count parts.1 in
    (a.1, n.0, n.1)

call_bounds : (rows : List Row) (c : Call) → call_in rows ≡ Some c → IsCallInRange c
call_bounds rows c is =
    let parts = call_parts rows c is in
    ((found_bounds 0 1000000000000 (one_of (codes "steps") rows) c.steps parts.steps).1, peek_bounds (found_peek rows) c.peek parts.peek)

read_bounds : (rows : List Row) (c : Command) → IsRead rows c → IsInRange c
read_bounds rows (command.Check o) is = options_bounds rows o is
read_bounds rows (command.Compile o) is = options_bounds rows o is
read_bounds rows (command.Many o) is = options_bounds rows o is
read_bounds rows (command.Run r) is = let read = run_parts rows r is in (options_bounds rows r.options read.0, call_bounds rows r.call read.1)
read_bounds rows (command.Exec c) is = call_bounds rows c is
read_bounds rows (command.Drill d) is = drill_bounds rows d is

pub in_ranges : (ks : Kinds) (named : Option (Text × List Row)) (c : Command) → command_without ks named ≡ Some c → IsInRange c
in_ranges [] None c e = absurd (some≢none c e)
in_ranges [] (Some p) c e = read_bounds p.1 c (named_read p c e)
in_ranges (k ∷ ks) named c e = absurd (some≢none c e)

-- ---- ARGS

no_word : Any IsNoArgument [] → ⊥
no_word any = omega (arith, any.2)

-- what is at index 1 of a text
abbrev second : Text → ℕ
second t = slice_index t 1

apart_names : (name a b : Text) (x y : ℕ) → second a ≡ x → second b ≡ y → (x ≡ y → ⊥) → bytes_eq name a ≡ true → bytes_eq name b ≡ true → ⊥
apart_names name a b x y is_a is_b differ e f =
    let first : name ≡ a = (bytes_eq-Decides name a).0 e in
    let other : name ≡ b = (bytes_eq-Decides name b).0 f in
    differ (sym is_a ∙ ap second (sym first ∙ other) ∙ is_b)

-- the words of a call are none, by whether the subcommand makes one
abbrev IsNone : Bool → List Row → Type 0
IsNone calls rows = Any IsNoArgument (cond calls (found_words rows) []) ⊎ (peek_said (cond calls (found_peek rows) None) ≡ None)

none_of_no_call : (rows : List Row) → IsNone false rows → ⊥
none_of_no_call rows (inl any) = no_word any
none_of_no_call rows (inr none) = some≢none None (sym none)

-- a call that is read has words that are one
none_of_call : (rows : List Row) (c : Call) → call_in rows ≡ Some c → IsNone true rows → ⊥
none_of_call rows c is (inl any) = no_other (found_words rows) c.arguments (call_parts rows c is).arguments any
none_of_call rows c is (inr none) = not_both (peek_said (found_peek rows)) c.peek (call_parts rows c is).peek none

no_call : (check compile many run exec drill : Bool) (rows : List Row) (c : Command) → (check ≡ true → (run || exec) ≡ false) → (compile ≡ true → (run || exec) ≡ false) → (many ≡ true → (run || exec) ≡ false)
    → by_name check compile many run exec drill rows ≡ Some c → IsNone (run || exec) rows → ⊥
no_call check compile many false false drill rows c one two three e none = none_of_no_call rows none
no_call true compile many true exec drill rows c one two three e none = absurd (true≢false (one refl))
no_call true compile many false true drill rows c one two three e none = absurd (true≢false (one refl))
no_call false true many true exec drill rows c one two three e none = absurd (true≢false (two refl))
no_call false true many false true drill rows c one two three e none = absurd (true≢false (two refl))
no_call false false true true exec drill rows c one two three e none = absurd (true≢false (three refl))
no_call false false true false true drill rows c one two three e none = absurd (true≢false (three refl))
no_call false false false true exec drill rows c one two three e none =
    made_of command.Run (λ c. ⊥) (run_in rows) (run_in rows) c (λ r is. none_of_call rows r.call (run_parts rows r is).1 none) refl e
no_call false false false false true drill rows c one two three e none =
    made_of command.Exec (λ c. ⊥) (call_in rows) (call_in rows) c (λ d is. none_of_call rows d is none) refl e

-- no name is that of two subcommands
neither_name : (name a : Text) (x : ℕ) → second a ≡ x → (x ≡ 117 → ⊥) → (x ≡ 120 → ⊥) → bytes_eq name a ≡ true → (bytes_eq name (codes "run") || bytes_eq name (codes "exec")) ≡ false
neither_name name a x is not_run not_exec e = go (bytes_eq name (codes "run")) (bytes_eq name (codes "exec")) refl refl
  where
    go : (run exec : Bool) → bytes_eq name (codes "run") ≡ run → bytes_eq name (codes "exec") ≡ exec → (run || exec) ≡ false
    go false false f g = refl
    go true exec f g = absurd (apart_names name a (codes "run") x 117 is refl not_run e f)
    go false true f g = absurd (apart_names name a (codes "exec") x 120 is refl not_exec e g)

none_other : (p : Text × List Row) (c : Command) → command_named p ≡ Some c → IsNoCall (Some p) → ⊥
none_other p c e none =
    no_call (bytes_eq p.0 (codes "check")) (bytes_eq p.0 (codes "compile")) (bytes_eq p.0 (codes "many")) (bytes_eq p.0 (codes "run")) (bytes_eq p.0 (codes "exec")) (bytes_eq p.0 (codes "drill")) p.1 c
    (neither_name p.0 (codes "check") 104 refl (λ x. omega (arith, x)) (λ x. omega (arith, x)))
    (neither_name p.0 (codes "compile") 111 refl (λ x. omega (arith, x)) (λ x. omega (arith, x)))
    (neither_name p.0 (codes "many") 97 refl (λ x. omega (arith, x)) (λ x. omega (arith, x))) e none

-- where a command is read, the words of a call are one
no_other_word : (ks : Kinds) (named : Option (Text × List Row)) (c : Command) → command_without ks named ≡ Some c → IsNoCall named → ⊥
no_other_word ks None c e (inl any) = no_word any
no_other_word ks None c e (inr none) = some≢none None (sym none)
no_other_word [] (Some p) c e none = none_other p c e none
no_other_word (k ∷ ks) (Some p) c e none = absurd (some≢none c e)

-- a command is read only of words that are not outside the grammar
pub apart : (ks : Kinds) (named : Option (Text × List Row)) (c : Command) → command_without ks named ≡ Some c → (ks ≢ []) ⊎ IsNoCall named → ⊥
apart [] named c e (inl some) = some refl
apart (k ∷ ks) named c e (inl some) = absurd (some≢none c e)
apart ks named c e (inr none) = no_other_word ks named c e none

-- the arguments of a call are those that the words of ARGS say
abbrev HasArguments : List Text → Command → Type 0
HasArguments words (command.Check o) = Unit {0}
HasArguments words (command.Compile o) = Unit {0}
HasArguments words (command.Many o) = Unit {0}
HasArguments words (command.Run r) = AreArguments words r.call.arguments
HasArguments words (command.Exec c) = AreArguments words c.arguments
HasArguments words (command.Drill d) = Unit {0}

by_name_arguments : (check compile many run exec drill : Bool) (rows : List Row) (c : Command) → by_name check compile many run exec drill rows ≡ Some c → HasArguments (cond (run || exec) (found_words rows) []) c
by_name_arguments true compile many run exec drill rows c e = made_of command.Check (HasArguments _) (options_in rows) (options_in rows) c (λ v is. tt) refl e
by_name_arguments false true many run exec drill rows c e = made_of command.Compile (HasArguments _) (options_in rows) (options_in rows) c (λ v is. tt) refl e
by_name_arguments false false true run exec drill rows c e = made_of command.Many (HasArguments _) (options_in rows) (options_in rows) c (λ v is. tt) refl e
by_name_arguments false false false true exec drill rows c e =
    made_of command.Run (HasArguments (found_words rows)) (run_in rows) (run_in rows) c (λ r is. are_arguments (found_words rows) r.call.arguments (call_parts rows r.call (run_parts rows r is).1).arguments) refl e
by_name_arguments false false false false true drill rows c e =
    made_of command.Exec (HasArguments (found_words rows)) (call_in rows) (call_in rows) c (λ d is. are_arguments (found_words rows) d.arguments (call_parts rows d is).arguments) refl e
by_name_arguments false false false false false true rows c e = made_of command.Drill (HasArguments []) (drill_in rows) (drill_in rows) c (λ v is. tt) refl e
by_name_arguments false false false false false false rows c e = absurd (some≢none c e)

pub command_arguments : (ks : Kinds) (named : Option (Text × List Row)) (c : Command) → command_without ks named ≡ Some c → HasArguments (call_words named) c
command_arguments [] None c e = absurd (some≢none c e)
command_arguments [] (Some p) c e = by_name_arguments (bytes_eq p.0 (codes "check")) (bytes_eq p.0 (codes "compile")) (bytes_eq p.0 (codes "many")) (bytes_eq p.0 (codes "run")) (bytes_eq p.0 (codes "exec")) (bytes_eq p.0 (codes "drill")) p.1 c e
command_arguments (k ∷ ks) named c e = absurd (some≢none c e)

pub run_arguments : (ks : Kinds) (named : Option (Text × List Row)) (r : Run) → command_without ks named ≡ Some (command.Run r) → AreArguments (call_words named) r.call.arguments
run_arguments ks named r e = command_arguments ks named (command.Run r) e

pub exec_arguments : (ks : Kinds) (named : Option (Text × List Row)) (c : Call) → command_without ks named ≡ Some (command.Exec c) → AreArguments (call_words named) c.arguments
exec_arguments ks named c e = command_arguments ks named (command.Exec c) e

-- Where clap's model finds no error, the options of each command have numbers in their ranges, `run` and `exec` have EXPORT, and
-- `drill` has N.
use Rattle.std.proofs.Common.{◌≡◌, ◌∙◌, ◌⊎◌, ℕ, Bool, true, false, List, [], ◌∷◌, Option, Some, None, refl, ap, ap₂, sym, true≢false, inl, inr}
use Rattle.std.specs.Prelude.{◌||◌, Any, codes, cond, find, is_some, not, option_and_then, option_map}
use Rattle.std.specs.List.{list_any}
use Rattle.std.specs.Option.{option_map_or}
use Rattle.std.specs.Str.{bytes_eq}
use Rattle.std.specs.Str.Parse.{digits_value, without_leading_plus}
use Rattle.clap.specs.Kinds.{Kinds}
use Rattle.clap.specs.Walk.{Names, Row, Rule, Text, action_of, answers_to, finished, first_of, has_row, nothing_held, one_of, rows_after, settled, walk}
use Rattle.clap.specs.Simple.{App, Shape, argument_words, built, built_leaf, entered, inherited, label_of, marked_built, names_of, rows_at, subcommand_of, with_leaf_noted}
use Rattle.clap.specs.Facts.{explicit_source, parser_of_value}
use Rattle.clap.specs.Faults.{check_fault, entered_fault, fault_of, level_fault}
use Rattle.clap.specs.Takes.{is_given}
use Rattle.clap.specs.declared.builder.action.ArgAction.TheVariants.{Set}
use Rattle.clap.specs.declared.builder.value_parser.ValueParser.{ValueParser}
use Rattle.clap.specs.declared.builder.value_parser.ValueParser.TheVariants as parser
use Rattle.clap.specs.declared.error.kind.ErrorKind.TheVariants.{MissingRequiredArgument}
use Rattle.command_words.specs.Arguments.{arguments_in}
use Rattle.command_words.specs.Grammar.{IsNoArgument, IsNoCall, IsOutside, call_in, check, command_in, command_named, command_without, compile, drill, drill_in, exec, found_peek, many, found_words, number_in, options_in, options_of, peek_said, program, run, run_of}
use Rattle.command_words.specs.declared.argument.Argument.{Argument}
use Rattle.command_words.specs.declared.command.Call.{Call}
use Rattle.command_words.specs.declared.command.Command.{Command}
use Rattle.command_words.specs.declared.command.Command.TheVariants as command
use Rattle.command_words.specs.declared.command.Drill.{Drill}
use Rattle.command_words.specs.declared.command.Options.{Options}
use Rattle.command_words.specs.declared.peek.Peek.{Peek}
use Rattle.command_words.proofs.ArgumentWords.{other_word}
use Rattle.command_words.proofs.Rows.{AllFit, Fits, IsOne, gives_default, has_default, neither, some_fault, value_good}
use Rattle.command_words.proofs.Walks.{HasNoShort, level_good}

-- a subcommand as clap builds it
abbrev leaf : App → Shape
leaf a = built_leaf (inherited (with_leaf_noted (marked_built program.top)) a.top)

no_short_check : HasNoShort (leaf check).rules
no_short_check x = refl

no_short_compile : HasNoShort (leaf compile).rules
no_short_compile x = refl

no_short_many : HasNoShort (leaf many).rules
no_short_many x = refl

no_short_exec : HasNoShort (leaf exec).rules
no_short_exec x = refl

no_short_run : HasNoShort (leaf run).rules
no_short_run x = refl

no_short_drill : HasNoShort (leaf drill).rules
no_short_drill x = refl

-- ---- the arguments, for each name

own : (name : Text) (p : ValueParser) (a : Rule) → action_of a ≡ Set → IsOne p a → Fits name p a
own name p a set one = inl (set, λ same. one)

other : (name : Text) (p : ValueParser) (a : Rule) → action_of a ≡ Set → bytes_eq a.id name ≡ false → Fits name p a
other name p a set apart = inl (set, λ same. absurd (true≢false (sym same ∙ apart)))

one_number : (least most : ℕ) (a : Rule) → a.range ≡ Some (record { start_inclusive = 1; end_inclusive = 1 }) → parser_of_value a.parser ≡ parser.Unsigned least most → a.ignore_case ≡ false
    → IsOne (parser.Unsigned least most) a
one_number least most a range is exact = record { range = range; parser = is; exact = exact; reading = refl }

check_workers : AllFit (codes "workers") (parser.Unsigned 0 64) (leaf check).rules
check_workers = (own (codes "workers") _ _ refl (one_number 0 64 _ refl refl refl), (other (codes "workers") _ _ refl refl, tt))

check_batch : AllFit (codes "batch") (parser.Unsigned 1 1048576) (leaf check).rules
check_batch = (other (codes "batch") _ _ refl refl, (own (codes "batch") _ _ refl (one_number 1 1048576 _ refl refl refl), tt))

compile_workers : AllFit (codes "workers") (parser.Unsigned 0 64) (leaf compile).rules
compile_workers = (own (codes "workers") _ _ refl (one_number 0 64 _ refl refl refl), (other (codes "workers") _ _ refl refl, tt))

many_workers : AllFit (codes "workers") (parser.Unsigned 0 64) (leaf many).rules
many_workers = (own (codes "workers") _ _ refl (one_number 0 64 _ refl refl refl), (other (codes "workers") _ _ refl refl, tt))

compile_batch : AllFit (codes "batch") (parser.Unsigned 1 1048576) (leaf compile).rules
compile_batch = (other (codes "batch") _ _ refl refl, (own (codes "batch") _ _ refl (one_number 1 1048576 _ refl refl refl), tt))

many_batch : AllFit (codes "batch") (parser.Unsigned 1 1048576) (leaf many).rules
many_batch = (other (codes "batch") _ _ refl refl, (own (codes "batch") _ _ refl (one_number 1 1048576 _ refl refl refl), tt))

exec_export : AllFit (codes "export") parser.String (leaf exec).rules
exec_export = (own (codes "export") _ _ refl (record { range = refl; parser = refl; exact = refl; reading = refl }), (inr (refl, refl), (other (codes "export") _ _ refl refl, (other (codes "export") _ _ refl refl, tt))))

exec_steps : AllFit (codes "steps") (parser.Unsigned 0 1000000000000) (leaf exec).rules
exec_steps = (other (codes "steps") _ _ refl refl, (inr (refl, refl), (own (codes "steps") _ _ refl (one_number 0 1000000000000 _ refl refl refl), (other (codes "steps") _ _ refl refl, tt))))

run_export : AllFit (codes "export") parser.String (leaf run).rules
run_export = (own (codes "export") _ _ refl (record { range = refl; parser = refl; exact = refl; reading = refl }), (inr (refl, refl), (other (codes "export") _ _ refl refl, (other (codes "export") _ _ refl refl, (other (codes "export") _ _ refl refl, (other (codes "export") _ _ refl refl, tt))))))

run_steps : AllFit (codes "steps") (parser.Unsigned 0 1000000000000) (leaf run).rules
run_steps = (other (codes "steps") _ _ refl refl, (inr (refl, refl), (own (codes "steps") _ _ refl (one_number 0 1000000000000 _ refl refl refl), (other (codes "steps") _ _ refl refl, (other (codes "steps") _ _ refl refl, (other (codes "steps") _ _ refl refl, tt))))))

run_workers : AllFit (codes "workers") (parser.Unsigned 0 64) (leaf run).rules
run_workers = (other (codes "workers") _ _ refl refl, (inr (refl, refl), (other (codes "workers") _ _ refl refl, (other (codes "workers") _ _ refl refl, (own (codes "workers") _ _ refl (one_number 0 64 _ refl refl refl), (other (codes "workers") _ _ refl refl, tt))))))

run_batch : AllFit (codes "batch") (parser.Unsigned 1 1048576) (leaf run).rules
run_batch = (other (codes "batch") _ _ refl refl, (inr (refl, refl), (other (codes "batch") _ _ refl refl, (other (codes "batch") _ _ refl refl, (other (codes "batch") _ _ refl refl, (own (codes "batch") _ _ refl (one_number 1 1048576 _ refl refl refl), tt))))))

drill_count : AllFit (codes "n") (parser.Unsigned 1 50000) (leaf drill).rules
drill_count = (
  own (codes "n") _ _ refl (one_number 1 50000 _ refl refl refl),
  (other (codes "n") _ _ refl refl, (other (codes "n") _ _ refl refl, (other (codes "n") _ _ refl refl, tt))),
)

drill_workers : AllFit (codes "workers") (parser.Unsigned 0 64) (leaf drill).rules
drill_workers = (
  other (codes "workers") _ _ refl refl,
  (own (codes "workers") _ _ refl (one_number 0 64 _ refl refl refl), (other (codes "workers") _ _ refl refl, (other (codes "workers") _ _ refl refl, tt))),
)

drill_batch : AllFit (codes "batch") (parser.Unsigned 1 1048576) (leaf drill).rules
drill_batch = (
  other (codes "batch") _ _ refl refl,
  (other (codes "batch") _ _ refl refl, (own (codes "batch") _ _ refl (one_number 1 1048576 _ refl refl refl), (other (codes "batch") _ _ refl refl, tt))),
)

drill_steps : AllFit (codes "steps") (parser.Unsigned 0 1000000000000) (leaf drill).rules
drill_steps = (
  other (codes "steps") _ _ refl refl,
  (other (codes "steps") _ _ refl refl, (other (codes "steps") _ _ refl refl, (own (codes "steps") _ _ refl (one_number 0 1000000000000 _ refl refl refl), tt))),
)

-- ---- what is read where a subcommand's level has no error

abbrev Passes : Shape → List Text → Type 0
Passes s words = level_fault s [] nothing_held words false [] ≡ []

abbrev rows_of : Shape → List Text → List Row
rows_of s words = rows_after s.rules [] words

number_read : (name : Text) (least most : ℕ) (s : Shape) → AllFit name (parser.Unsigned least most) s.rules → HasNoShort s.rules → list_any (gives_default name) s.rules ≡ true
    → (words : List Text) → Passes s words → (n : ℕ) × (option_and_then (number_in least most) (one_of name (rows_of s words)) ≡ Some n)
number_read name least most s fit none default words e =
    let end = (walk s.rules [] nothing_held words).held in
    let has = has_default name s.rules (settled s.rules end).rows default in
    let v = value_good name (parser.Unsigned least most) (rows_of s words) has (level_good name (parser.Unsigned least most) s fit none words e) in
    (digits_value 10 (without_leading_plus v.0), rw (v.2, v.3) refl)

options_read : (rows : List Row) (w b : ℕ) → option_and_then (number_in 0 64) (one_of (codes "workers") rows) ≡ Some w
    → option_and_then (number_in 1 1048576) (one_of (codes "batch") rows) ≡ Some b → (o : Options) × (options_in rows ≡ Some o)
options_read rows w b is_w is_b = (record { workers = w; batch = b }, ap₂ options_of is_w is_b)

-- of any subcommand with both options
level_options : (s : Shape) → AllFit (codes "workers") (parser.Unsigned 0 64) s.rules → AllFit (codes "batch") (parser.Unsigned 1 1048576) s.rules → HasNoShort s.rules
    → list_any (gives_default (codes "workers")) s.rules ≡ true → list_any (gives_default (codes "batch")) s.rules ≡ true
    → (words : List Text) → Passes s words → (o : Options) × (options_in (rows_of s words) ≡ Some o)
level_options s workers batch none default_workers default_batch words e =
    let w = number_read (codes "workers") 0 64 s workers none default_workers words e in
    let b = number_read (codes "batch") 1 1048576 s batch none default_batch words e in
    options_read (rows_of s words) w.0 b.0 w.1 b.1

check_read : (words : List Text) → Passes (leaf check) words → (o : Options) × (options_in (rows_of (leaf check) words) ≡ Some o)
check_read = level_options (leaf check) check_workers check_batch no_short_check refl refl

compile_read : (words : List Text) → Passes (leaf compile) words → (o : Options) × (options_in (rows_of (leaf compile) words) ≡ Some o)
compile_read = level_options (leaf compile) compile_workers compile_batch no_short_compile refl refl

many_read : (words : List Text) → Passes (leaf many) words → (o : Options) × (options_in (rows_of (leaf many) words) ≡ Some o)
many_read = level_options (leaf many) many_workers many_batch no_short_many refl refl

run_options : (words : List Text) → Passes (leaf run) words → (o : Options) × (options_in (rows_of (leaf run) words) ≡ Some o)
run_options = level_options (leaf run) run_workers run_batch no_short_run refl refl

drill_options : (words : List Text) → Passes (leaf drill) words → (o : Options) × (options_in (rows_of (leaf drill) words) ≡ Some o)
drill_options = level_options (leaf drill) drill_workers drill_batch no_short_drill refl refl

given_has : (name : Text) (rows : List Row) → is_given name rows ≡ true → has_row name rows ≡ true
given_has name [] e = absurd (true≢false (sym e))
given_has name (r ∷ rs) e = go (bytes_eq r.id name) e (given_has name rs)
  where
    go : (b : Bool) → option_map_or (λ (x : Row). explicit_source x.source) (cond b (Some r) (find (λ x. bytes_eq x.id name) rs)) false ≡ true
        → (is_given name rs ≡ true → has_row name rs ≡ true) → (b || has_row name rs) ≡ true
    go true e more = refl
    go false e more = more e

-- a subcommand whose words are those of a call
pub record TakesCall (s : Shape) : Type 0 where
  pub export : AllFit (codes "export") parser.String s.rules
  pub steps : AllFit (codes "steps") (parser.Unsigned 0 1000000000000) s.rules
  pub no_short : HasNoShort s.rules
  pub default : list_any (gives_default (codes "steps")) s.rules ≡ true
  pub given : (rows : List Row) → check_fault s rows false ≡ [] → is_given (codes "export") rows ≡ true

wanted : (b : Bool) → cond (not b || false) (MissingRequiredArgument ∷ []) [] ≡ [] → b ≡ true
wanted true e = refl
wanted false e = absurd (some_fault _ _ e)

run_takes : TakesCall (leaf run)
run_takes = record { export = run_export; steps = run_steps; no_short = no_short_run; default = refl; given = λ rows e. wanted (is_given (codes "export") rows) e }

exec_takes : TakesCall (leaf exec)
exec_takes = record { export = exec_export; steps = exec_steps; no_short = no_short_exec; default = refl; given = λ rows e. wanted (is_given (codes "export") rows) e }

-- the last check of a level
last_check : (s : Shape) (names : Names) (words : List Text) (has : Bool) (below : Kinds) → level_fault s names nothing_held words has below ≡ []
    → (below ≡ []) × (check_fault s (finished s.rules (walk s.rules names nothing_held words).held) has ≡ [])
last_check s names words has below e =
    let front = neither _ _ e in
    let rest = neither _ _ front.1 in
    let end = neither _ _ (neither _ _ rest.1).1 in
    (rest.0, end.1)

export_read : (s : Shape) → TakesCall s → (words : List Text) → Passes s words → (t : Text) × (first_of (codes "export") (rows_of s words) ≡ Some t)
export_read s takes words e =
    let rows = rows_of s words in
    let has = given_has (codes "export") rows (takes.given rows (last_check s [] words false [] e).1) in
    let v = value_good (codes "export") parser.String rows has (level_good (codes "export") parser.String s takes.export takes.no_short words e) in
    (v.0, v.1)

-- a call is read, or the words are none
abbrev IsNoCallIn : List Row → Type 0
IsNoCallIn rows = Any IsNoArgument (found_words rows) ⊎ (peek_said (found_peek rows) ≡ None)

call_read : (s : Shape) → TakesCall s → (words : List Text) → Passes s words → ((c : Call) × (call_in (rows_of s words) ≡ Some c)) ⊎ IsNoCallIn (rows_of s words)
call_read s takes words e = go (arguments_in (found_words (rows_of s words))) (peek_said (found_peek (rows_of s words))) refl refl
  where
    go : (l : Option (List Argument)) (p : Option (Option Peek)) → arguments_in (found_words (rows_of s words)) ≡ l → peek_said (found_peek (rows_of s words)) ≡ p
        → ((c : Call) × (call_in (rows_of s words) ≡ Some c)) ⊎ IsNoCallIn (rows_of s words)
    go None p is said = inr (inl (other_word (found_words (rows_of s words)) is))
    go (Some l) None is said = inr (inr said)
    go (Some l) (Some p) is said =
        let t = export_read s takes words e in
        let n = number_read (codes "steps") 0 1000000000000 s takes.steps takes.no_short takes.default words e in
        inl (record { export = t.0; arguments = l; steps = n.0; peek = p }, rw (t.1, is, n.1, said) refl)

-- the command, or the words of a call are none
abbrev IsEither : Option (Text × List Row) → Type 0
IsEither named = ((c : Command) × (option_and_then command_named named ≡ Some c)) ⊎ IsNoCall named

run_read : (words : List Text) → Passes (leaf run) words → IsEither (Some (codes "run", rows_of (leaf run) words))
run_read words e = go (call_read (leaf run) run_takes words e)
  where
    go : ((c : Call) × (call_in (rows_of (leaf run) words) ≡ Some c)) ⊎ IsNoCallIn (rows_of (leaf run) words) → IsEither (Some (codes "run", rows_of (leaf run) words))
    go (inr none) = inr none
    go (inl call) =
        let o = run_options words e in
        inl (command.Run (record { options = o.0; call = call.0 }), ap (option_map command.Run) (ap₂ run_of o.1 call.1))

exec_read : (words : List Text) → Passes (leaf exec) words → IsEither (Some (codes "exec", rows_of (leaf exec) words))
exec_read words e = go (call_read (leaf exec) exec_takes words e)
  where
    go : ((c : Call) × (call_in (rows_of (leaf exec) words) ≡ Some c)) ⊎ IsNoCallIn (rows_of (leaf exec) words) → IsEither (Some (codes "exec", rows_of (leaf exec) words))
    go (inr none) = inr none
    go (inl call) = inl (command.Exec call.0, ap (option_map command.Exec) call.1)

count_read : (words : List Text) → Passes (leaf drill) words → (n : ℕ) × (option_and_then (number_in 1 50000) (one_of (codes "n") (rows_of (leaf drill) words)) ≡ Some n)
count_read words e =
    let rows = rows_of (leaf drill) words in
    let has = given_has (codes "n") rows (wanted (is_given (codes "n") rows) (last_check (leaf drill) [] words false [] e).1) in
    let v = value_good (codes "n") (parser.Unsigned 1 50000) rows has (level_good (codes "n") (parser.Unsigned 1 50000) (leaf drill) drill_count no_short_drill words e) in
    (digits_value 10 (without_leading_plus v.0), rw (v.2, v.3) refl)

drill_read : (words : List Text) → Passes (leaf drill) words → IsEither (Some (codes "drill", rows_of (leaf drill) words))
drill_read words e =
    let o = drill_options words e in
    let n = count_read words e in
    let s = number_read (codes "steps") 0 1000000000000 (leaf drill) drill_steps no_short_drill refl words e in
    let d : Drill = record { options = o.0; count = n.0; steps = s.0 } in
    let read : drill_in (rows_of (leaf drill) words) ≡ Some d = rw (o.1, n.1, s.1) refl in
    inl (command.Drill d, ap (option_map command.Drill) read)

-- ---- the program

missing : (has : Bool) (rows : List Row) → check_fault (built program).top rows has ≡ [] → has ≡ true
missing true rows e = refl
missing false rows e = absurd (some_fault _ _ e)

stop_read : (stop : Option (Text × List Text)) → entered_fault (built program) stop ≡ [] → is_some (entered (built program) stop) ≡ true
    → IsEither (entered (built program) stop)
stop_read None e has = absurd (true≢false (sym has))
stop_read (Some p) e has =
    go (answers_to p.0 (label_of (leaf check))) (answers_to p.0 (label_of (leaf compile))) (answers_to p.0 (label_of (leaf many))) (answers_to p.0 (label_of (leaf run))) (answers_to p.0 (label_of (leaf exec)))
    (answers_to p.0 (label_of (leaf drill))) e has
  where
    go : (a b m c d f : Bool) → option_map_or (λ s. level_fault s [] nothing_held p.1 false []) (cond a (Some (leaf check)) (cond b (Some (leaf compile)) (cond m (Some (leaf many)) (cond c (Some (leaf run)) (cond d (Some (leaf exec)) (cond f (Some (leaf drill)) None)))))) [] ≡ []
        → is_some (option_map (λ s. rows_at s p.1) (cond a (Some (leaf check)) (cond b (Some (leaf compile)) (cond m (Some (leaf many)) (cond c (Some (leaf run)) (cond d (Some (leaf exec)) (cond f (Some (leaf drill)) None))))))) ≡ true
        → IsEither (option_map (λ s. rows_at s p.1) (cond a (Some (leaf check)) (cond b (Some (leaf compile)) (cond m (Some (leaf many)) (cond c (Some (leaf run)) (cond d (Some (leaf exec)) (cond f (Some (leaf drill)) None)))))))
    go true b m c d f e has =
        let o = check_read p.1 e in
        inl (command.Check o.0, ap (option_map command.Check) o.1)
    go false true m c d f e has =
        let o = compile_read p.1 e in
        inl (command.Compile o.0, ap (option_map command.Compile) o.1)
    go false false true c d f e has =
        let o = many_read p.1 e in
        inl (command.Many o.0, ap (option_map command.Many) o.1)
    go false false false true d f e has = run_read p.1 e
    go false false false false true f e has = exec_read p.1 e
    go false false false false false true e has = drill_read p.1 e
    go false false false false false false e has = absurd (true≢false (sym has))

named_read : (words : List Text) → fault_of program words ≡ [] → IsEither (subcommand_of program words)
named_read words e =
    let app = built program in
    let given = argument_words program words in
    let stop = (walk app.top.rules (names_of app) nothing_held given).stopped in
    let end = (walk app.top.rules (names_of app) nothing_held given).held in
    let parts = last_check app.top (names_of app) given (is_some (entered app stop)) (entered_fault app stop) e in
    stop_read stop parts.0 (missing (is_some (entered app stop)) (finished app.top.rules end) parts.1)

-- where no error is found, a command is read, or the words of a call are none
pub all_read : (words : List Text) → fault_of program words ≡ [] → ((c : Command) × (command_in words ≡ Some c)) ⊎ IsNoCall (subcommand_of program words)
all_read words e = go (named_read words e)
  where
    go : IsEither (subcommand_of program words) → ((c : Command) × (command_in words ≡ Some c)) ⊎ IsNoCall (subcommand_of program words)
    go (inl read) = inl (read.0, ap (λ ks. command_without ks (subcommand_of program words)) e ∙ read.1)
    go (inr none) = inr none

pub read_or_outside : (words : List Text) (ks : Kinds) → fault_of program words ≡ ks → ((c : Command) × (command_in words ≡ Some c)) ⊎ IsOutside words
read_or_outside words [] e = go (all_read words e)
  where
    go : ((c : Command) × (command_in words ≡ Some c)) ⊎ IsNoCall (subcommand_of program words) → ((c : Command) × (command_in words ≡ Some c)) ⊎ IsOutside words
    go (inl read) = inl read
    go (inr none) = inr (inr none)
read_or_outside words (k ∷ ks) e = inr (inl (λ none. some_fault k ks (sym e ∙ none)))

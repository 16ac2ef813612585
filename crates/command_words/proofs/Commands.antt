-- The command that is read is the one that clap's model reads.
use Rattle.std.proofs.Common.{◌≡◌, ◌∙◌, ◌⊎◌, true, List, [], ◌∷◌, Some, None, refl, ap, ap₂, sym, subst, inl, inr}
use Rattle.std.specs.Prelude.{◌≢◌, option_and_then, Result, Ok, Err}
use Rattle.clap.specs.Walk.{Text}
use Rattle.clap.specs.Simple.{App, subcommand_of, subcommand_rows_of, HasMatchesOf, is_simple}
use Rattle.clap.specs.Kinds.{Kinds, HasKind}
use Rattle.clap.specs.Values.{kind_of}
use Rattle.clap.specs.Faults.{fault_of, is_simple_and_free}
use Rattle.clap.specs.declared.error.Error.{Error}
use Rattle.clap.specs.declared.error.kind.ErrorKind.TheVariants.{OutOfMemory}
use Rattle.clap.specs.declared.parser.matches.ArgMatches.{ArgMatches}
use Rattle.clap.proofs.OnLiterals.{clap_on_literals}
use Rattle.command_words.proofs.Passing.{read_or_outside}
use Rattle.command_words.proofs.Readings.{not_both}
use Rattle.command_words.specs.Grammar.{program, command_in, command_named, command_without, Gives, IsOutside, Reads}
use Rattle.command_words.specs.declared.command.WordsStop.{WordsStop}
use Rattle.command_words.specs.declared.command.WordsStop.TheVariants.{Outside, NoMemory}
use Rattle.command_words.specs.declared.command.Command.{Command}

is_free : is_simple_and_free program ≡ true
unfolding clap_on_literals
is_free = refl

is_plain : is_simple program ≡ true
unfolding clap_on_literals
is_plain = refl

-- of the words that clap was given, which are these words
pub found : (a : App) (given words : List Text) (m : ArgMatches) → a ≡ program → given ≡ words → (is_simple_and_free a ≡ true → fault_of a given ≡ [])
    → HasMatchesOf a given m → option_and_then command_named (subcommand_rows_of m) ≡ command_in words
found a given words m is same faults has =
    let none : fault_of program words ≡ [] = sym (ap₂ fault_of is same) ∙ faults (ap is_simple_and_free is ∙ is_free) in
    let rows : subcommand_rows_of m ≡ subcommand_of program words = (has (ap is_simple is ∙ is_plain)).1 ∙ ap₂ subcommand_of is same in
    rw none (ap (option_and_then command_named) rows)

outside_by : (e : Error) (kinds : Kinds) → HasKind kinds e → (kind_of e ≡ OutOfMemory → ⊥) → kinds ≡ [] → ⊥
outside_by e [] (inl memory) other none = other memory
outside_by e [] (inr among) other none = among
outside_by e (k ∷ ks) h other none = cc

pub refused : (a : App) (given words : List Text) (e : Error) → a ≡ program → given ≡ words → (is_simple_and_free a ≡ true → HasKind (fault_of a given) e)
    → (kind_of e ≡ OutOfMemory → ⊥) → fault_of program words ≢ []
refused a given words e is same faults other =
    outside_by e (fault_of program words) (subst (λ x. HasKind x e) (ap₂ fault_of is same) (faults (ap is_simple_and_free is ∙ is_free))) other

-- where there is no command, the words are outside the grammar
outside : (words : List Text) → command_in words ≡ None → ((c : Command) × (command_in words ≡ Some c)) ⊎ IsOutside words → IsOutside words
outside words none (inl read) = absurd (not_both (command_in words) read.0 read.1 none)
outside words none (inr is) = is

-- what gives the command says what is read
pub as_reading : (words : List Text) (r : Result Command WordsStop) → Gives (command_in words) r → Reads words r
as_reading words (Ok c) is = is
as_reading words (Err Outside) none = outside words none (read_or_outside words (fault_of program words) refl)
as_reading words (Err NoMemory) is = tt

-- an error gives no command
pub no_command : (words : List Text) → fault_of program words ≢ [] → command_in words ≡ None
no_command words some = go (fault_of program words) refl
  where
    go : (ks : Kinds) → fault_of program words ≡ ks → command_without ks (subcommand_of program words) ≡ None
    go [] e = absurd (some e)
    go (k ∷ ks) e = refl

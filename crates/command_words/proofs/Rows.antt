-- Rows in which the value of one name is a text that its parser accepts: they stay so through uses of arguments and
-- through defaults that clap's model finds no error in.
use Rattle.std.proofs.Common.{◌≡◌, ◌∙◌, ◌⊎◌, ◌++◌, ℕ, Bool, true, false, List, [], ◌∷◌, length, Option, Some, None, refl, ap, sym, subst, true≢false, inl, inr, arith}
use Rattle.std.specs.Prelude.{◌==◌, ◌||◌, ◌&&◌, cond, not, slice_get, fold, find, option_and_then, option_map}
use Rattle.std.specs.List.{list_any}
use Rattle.std.specs.Str.{bytes_eq}
use Rattle.std.proofs.lemmas.Bool.{eqb-true, ne_eqb}
use Rattle.std.proofs.lemmas.Slice.Eq.{bytes_eq-Decides}
use Rattle.clap.specs.Kinds.{Kinds, or_else, range_kinds, request_kinds, values_kinds}
use Rattle.clap.specs.Walk.{Row, Rule, Text, action_of, at_row, default_rows, first_of, has_row, is_empty, more_values, one_of, reading_by, row_text, stronger, used, used_as, values_or_missing, with_default, with_values, without}
use Rattle.clap.specs.Facts.{parser_of_value, unwrap_or_range}
use Rattle.clap.specs.Faults.{action_fault, default_fault, defaults_fault, given_default_fault, use_fault, values_fault}
use Rattle.clap.specs.ValueTests.{accepts}
use Rattle.clap.specs.Values.{read_as, reading_of, refused_kind}
use Rattle.clap.specs.declared.builder.action.ArgAction.TheVariants.{Append, Set}
use Rattle.clap.specs.declared.builder.value_parser.ValueParser.{ValueParser}
use Rattle.clap.specs.declared.builder.value_parser.Reading.{Reading}
use Rattle.clap.specs.declared.builder.value_parser.Reading.TheVariants.{AsWritten}
use Rattle.clap.specs.declared.error.kind.ErrorKind.{ErrorKind}
use Rattle.clap.specs.declared.error.kind.ErrorKind.TheVariants.{InvalidValue, WrongNumberOfValues}
use Rattle.clap.specs.declared.parser.matches.ValueSource.{ValueSource}
use Rattle.clap.specs.declared.parser.matches.ValueSource.TheVariants.{CommandLine, DefaultValue}
use Rattle.clap.proofs.WalkLemmas.{both}

pub some_fault : (k : ErrorKind) (ks : Kinds) → k ∷ ks ≡ [] → ⊥
some_fault k ks e = cc

pub neither : (a b : Kinds) → or_else a b ≡ [] → (a ≡ []) × (b ≡ [])
neither [] b e = (refl, e)
neither (k ∷ ks) b e = absurd (some_fault k ks e)

one_value : (n : ℕ) → range_kinds 1 1 n ≡ [] → 1 ≡ n
one_value n e = go (n == 0) (1 == n) refl e
  where
    go : (z o : Bool) → (1 == n) ≡ o → cond z (InvalidValue ∷ []) (cond o [] (WrongNumberOfValues ∷ [])) ≡ [] → 1 ≡ n
    go true o is e = absurd (some_fault _ _ e)
    go false true is e = eqb-true 1 n is
    go false false is e = absurd (some_fault _ _ e)

first_passes : (p : ValueParser) (v : Text) (vs : List Text) → values_kinds false p (v ∷ vs) ≡ [] → accepts false p v ≡ true
first_passes p v vs e = go (accepts false p v) (neither _ _ e).0
  where
    go : (b : Bool) → cond b [] (refused_kind p ∷ []) ≡ [] → b ≡ true
    go true e = refl
    go false e = absurd (some_fault _ _ e)

-- the first value is one that the parser accepts, and is read as it is written
abbrev pub HasFirst : ValueParser → Row → Type 0
HasFirst p r = (t : Text) × (slice_get r.values 0 ≡ Some t) × (r.reading ≡ AsWritten) × (accepts false p t ≡ true)

-- an argument whose uses have one value, which is read as it is written
pub record IsOne (p : ValueParser) (a : Rule) : Type 0 where
  pub range : a.range ≡ Some (record { start_inclusive = 1; end_inclusive = 1 })
  pub parser : parser_of_value a.parser ≡ p
  pub exact : a.ignore_case ≡ false
  pub reading : reading_of p ≡ AsWritten

has_some : (v : Text) (vs : List Text) → is_empty (v ∷ vs) ≡ false
has_some v vs = ne_eqb _ _ (λ e. omega arith)

module _ (name : Text) (p : ValueParser) where
  abbrev pub IsGood : Row → Type 0
  IsGood r = bytes_eq r.id name ≡ true → HasFirst p r

  abbrev pub AreGood : List Row → Type 0
  AreGood [] = Unit {0}
  AreGood (r ∷ rs) = IsGood r × AreGood rs

  -- a use sets the value, which is one where the argument has the name; or adds values, for another name
  abbrev pub Fits : Rule → Type 0
  Fits a = ((action_of a ≡ Set) × (bytes_eq a.id name ≡ true → IsOne p a)) ⊎ ((action_of a ≡ Append) × (bytes_eq a.id name ≡ false))

  abbrev pub AllFit : List Rule → Type 0
  AllFit [] = Unit {0}
  AllFit (a ∷ rest) = Fits a × AllFit rest

  joined : (xs ys : List Row) → AreGood xs → AreGood ys → AreGood (xs ++ ys)
  joined [] ys a b = b
  joined (x ∷ xs) ys a b = (a.0, joined xs ys a.1 b)

  changed : (id : Text) (change : Row → List Row) (missing rows : List Row) → ((r : Row) → IsGood r → AreGood (change r)) → AreGood missing → AreGood rows
      → AreGood (at_row id change missing rows)
  changed id change missing [] each new all = new
  changed id change missing (r ∷ rs) each new all = go (bytes_eq r.id id) (changed id change missing rs each new all.1)
    where
      go : (b : Bool) → AreGood (at_row id change missing rs) → AreGood (cond b (change r ++ rs) (r ∷ at_row id change missing rs))
      go true rest = joined (change r) rs (each r all.0) all.1
      go false rest = (all.0, rest)

  first_stays : (r : Row) (vs : List Text) (s : Option ValueSource) → HasFirst p r → HasFirst p (record r { values = r.values ++ vs; source = s })
  first_stays r vs s h = (h.0, go r.values h.1, h.2, h.3)
    where
      go : (xs : List Text) → slice_get xs 0 ≡ Some h.0 → slice_get (xs ++ vs) 0 ≡ Some h.0
      go [] e = cc
      go (x ∷ xs) e = e

  more_good : (s : ValueSource) (vs : List Text) (r : Row) → IsGood r → AreGood (more_values s vs r)
  more_good s vs r h = (λ e. first_stays r vs (Some (stronger r.source s)) (h e), tt)

  with_good : (id : Text) (how : Reading) (s : ValueSource) (vs : List Text) (rows : List Row)
      → IsGood (record { id = id; values = vs; count = None; source = Some s; reading = how }) → AreGood rows → AreGood (with_values id how s vs rows)
  with_good id how s vs rows new h = changed id (more_values s vs) _ rows (more_good s vs) (new, tt) h

  without_good : (id : Text) (rows : List Row) → AreGood rows → AreGood (without id rows)
  without_good id rows h = changed id (λ _. []) [] rows (λ r g. tt) tt h

  -- ---- uses and defaults

  first_value : (a : Rule) (v : Text) (vs : List Text) (s : Option ValueSource) → IsOne p a → values_fault a (v ∷ vs) ≡ []
      → HasFirst p (record { id = a.id; values = v ∷ vs; count = None; source = s; reading = reading_by a })
  first_value a v vs s one e =
      let passes : values_kinds false p (v ∷ vs) ≡ [] = subst (λ q. values_kinds false q (v ∷ vs) ≡ []) one.parser (subst (λ b. values_kinds b (parser_of_value a.parser) (v ∷ vs) ≡ []) one.exact e) in
      (v, refl, ap reading_of one.parser ∙ one.reading, first_passes p v vs passes)

  set_value : (a : Rule) (again : Bool) (vs : List Text) (rows : List Row) → IsOne p a → use_fault again a vs rows ≡ [] → action_of a ≡ Set
      → HasFirst p (record { id = a.id; values = values_or_missing a vs; count = None; source = Some CommandLine; reading = reading_by a })
  set_value a again vs rows one e set =
      let parts = neither _ _ e in
      let count = one_value (length vs) (subst (λ r. range_kinds (unwrap_or_range r).start_inclusive (unwrap_or_range r).end_inclusive (length vs) ≡ []) one.range parts.0) in
      let passes = (neither _ _ (subst (λ k. action_fault k again a (values_or_missing a vs) rows ≡ []) set parts.1)).1 in
      go vs count passes
    where
      go : (xs : List Text) → 1 ≡ length xs → values_fault a (values_or_missing a xs) ≡ []
          → HasFirst p (record { id = a.id; values = values_or_missing a xs; count = None; source = Some CommandLine; reading = reading_by a })
      go [] count e = absurd (omega (arith, count))
      go (x ∷ xs) count e = first_value a x xs (Some CommandLine) one e

  pub used_good : (a : Rule) → Fits a → (again : Bool) (vs : List Text) (rows : List Row) → use_fault again a vs rows ≡ [] → AreGood rows → AreGood (used a vs rows)
  used_good a (inl f) again vs rows e h =
      subst (λ k. AreGood (used_as k a.id (reading_by a) (values_or_missing a vs) rows)) (sym f.0)
      (with_good a.id (reading_by a) CommandLine (values_or_missing a vs) (without a.id rows) (λ same. set_value a again vs rows (f.1 same) e f.0) (without_good a.id rows h))
  used_good a (inr f) again vs rows e h =
      subst (λ k. AreGood (used_as k a.id (reading_by a) (values_or_missing a vs) rows)) (sym f.0)
      (with_good a.id (reading_by a) CommandLine (values_or_missing a vs) rows (λ same. absurd (true≢false (sym same ∙ f.1))) h)

  default_value : (a : Rule) → Fits a → (v : Text) (vs : List Text) → values_fault a (v ∷ vs) ≡ []
      → IsGood (record { id = a.id; values = v ∷ vs; count = None; source = Some DefaultValue; reading = reading_by a })
  default_value a (inl f) v vs e same = first_value a v vs (Some DefaultValue) (f.1 same) e
  default_value a (inr f) v vs e same = absurd (true≢false (sym same ∙ f.1))

  default_good : (a : Rule) → Fits a → (rows : List Row) → default_fault rows a ≡ [] → AreGood rows → AreGood (with_default rows a)
  default_good a fit rows e h = go (has_row a.id rows) a.defaults e
    where
      go : (b : Bool) (ds : List Text) → cond (b || is_empty ds) [] (given_default_fault a ds) ≡ [] → AreGood (cond b rows (default_rows a.id (reading_by a) ds rows))
      go true ds e = h
      go false [] e = h
      go false (v ∷ vs) e =
          let kinds : or_else (request_kinds (action_of a)) (values_fault a (v ∷ vs)) ≡ [] = rw (has_some v vs) at e in
          with_good a.id (reading_by a) DefaultValue (v ∷ vs) rows (default_value a fit v vs (neither _ _ kinds).1) h

  pub defaults_good : (rules : List Rule) → AllFit rules → (rows : List Row) → defaults_fault rows rules ≡ [] → AreGood rows → AreGood (fold with_default rows rules)
  unfolding defaults_fault
  defaults_good [] fit rows e h = h
  defaults_good (a ∷ rest) fit rows e h =
      let parts = neither _ _ e in
      defaults_good rest fit.1 (with_default rows a) parts.1 (default_good a fit.0 rows parts.0 h)

  -- ---- the value of the name

  pub found_good : (rows : List Row) → has_row name rows ≡ true → AreGood rows → (r : Row) × (find (λ x. bytes_eq x.id name) rows ≡ Some r) × HasFirst p r
  found_good [] h good = absurd (true≢false (sym h))
  found_good (r ∷ rs) h good = go (bytes_eq r.id name) refl h (λ k. found_good rs k good.1)
    where
      go : (b : Bool) → bytes_eq r.id name ≡ b → (b || has_row name rs) ≡ true → (has_row name rs ≡ true → (x : Row) × (find (λ y. bytes_eq y.id name) rs ≡ Some x) × HasFirst p x)
          → (x : Row) × (cond b (Some r) (find (λ y. bytes_eq y.id name) rs) ≡ Some x) × HasFirst p x
      go true e h rest = (r, refl, good.0 e)
      go false e h rest = rest h

  pub value_good : (rows : List Row) → has_row name rows ≡ true → AreGood rows → (t : Text) × (first_of name rows ≡ Some t) × (one_of name rows ≡ Some t) × (accepts false p t ≡ true)
  value_good rows has good =
      let found = found_good rows has good in
      let r = found.0 in
      let first : slice_get r.values 0 ≡ Some found.2.0 = found.2.1 in
      let read : row_text r ≡ Some found.2.0 = ap (λ how. option_map (read_as how) (slice_get r.values 0)) found.2.2 ∙ ap (option_map (read_as AsWritten)) first in
      (found.2.0, ap (option_and_then (λ (x : Row). slice_get x.values 0)) found.1 ∙ first, ap (option_and_then row_text) found.1 ∙ read, found.2.3)

-- ---- rows for defaults

has_new : (id : Text) (how : Reading) (vs : List Text) (rows : List Row) → bytes_eq id id ≡ true → has_row id (with_values id how DefaultValue vs rows) ≡ true
has_new id how vs [] same = rw same refl
has_new id how vs (r ∷ rs) same = go (bytes_eq r.id id) refl (has_new id how vs rs same)
  where
    go : (b : Bool) → bytes_eq r.id id ≡ b → has_row id (with_values id how DefaultValue vs rs) ≡ true
        → has_row id (cond b (more_values DefaultValue vs r ++ rs) (r ∷ with_values id how DefaultValue vs rs)) ≡ true
    go true e h = rw e refl
    go false e h = rw e h

has_still : (name id : Text) (how : Reading) (vs : List Text) (rows : List Row) → has_row name rows ≡ true → has_row name (with_values id how DefaultValue vs rows) ≡ true
has_still name id how vs [] h = absurd (true≢false (sym h))
has_still name id how vs (r ∷ rs) h = go (bytes_eq r.id id) (bytes_eq r.id name) refl h (has_still name id how vs rs)
  where
    go : (b a : Bool) → bytes_eq r.id name ≡ a → (a || has_row name rs) ≡ true → (has_row name rs ≡ true → has_row name (with_values id how DefaultValue vs rs) ≡ true)
        → has_row name (cond b (more_values DefaultValue vs r ++ rs) (r ∷ with_values id how DefaultValue vs rs)) ≡ true
    go true a e h rest = rw e h
    go false true e h rest = rw e refl
    go false false e h rest = rw e (rest h)

stays_default : (name : Text) (a : Rule) (rows : List Row) → has_row name rows ≡ true → has_row name (with_default rows a) ≡ true
stays_default name a rows h = go (has_row a.id rows) a.defaults
  where
    go : (b : Bool) (ds : List Text) → has_row name (cond b rows (default_rows a.id (reading_by a) ds rows)) ≡ true
    go true ds = h
    go false [] = h
    go false (v ∷ vs) = has_still name a.id (reading_by a) (v ∷ vs) rows h

-- a row that is there stays
pub stays_defaults : (name : Text) (rules : List Rule) (rows : List Row) → has_row name rows ≡ true → has_row name (fold with_default rows rules) ≡ true
stays_defaults name [] rows h = h
stays_defaults name (a ∷ rest) rows h = stays_defaults name rest (with_default rows a) (stays_default name a rows h)

-- the argument has the name, and a default
abbrev pub gives_default : Text → Rule → Bool
gives_default name a = bytes_eq a.id name && not (is_empty a.defaults)

default_has : (name : Text) (a : Rule) (rows : List Row) → gives_default name a ≡ true → has_row name (with_default rows a) ≡ true
default_has name a rows e = go (has_row a.id rows) refl a.defaults parts.1
  where
    parts : (bytes_eq a.id name ≡ true) × (not (is_empty a.defaults) ≡ true)
    parts = both _ _ e

    same : a.id ≡ name
    same = (bytes_eq-Decides a.id name).0 parts.0

    go : (b : Bool) → has_row a.id rows ≡ b → (ds : List Text) → not (is_empty ds) ≡ true → has_row name (cond b rows (default_rows a.id (reading_by a) ds rows)) ≡ true
    go true is ds more = subst (λ n. has_row n rows ≡ true) same is
    go false is [] more = absurd (true≢false (sym more))
    go false is (v ∷ vs) more = subst (λ n. has_row n (with_values a.id (reading_by a) DefaultValue (v ∷ vs) rows) ≡ true) same (has_new a.id (reading_by a) (v ∷ vs) rows ((bytes_eq-Decides a.id a.id).1 refl))

-- where an argument of the name has a default, there is a row of the name in the end
pub has_default : (name : Text) (rules : List Rule) (rows : List Row) → list_any (gives_default name) rules ≡ true → has_row name (fold with_default rows rules) ≡ true
has_default name [] rows e = absurd (true≢false (sym e))
has_default name (a ∷ rest) rows e = go (gives_default name a) refl e (has_default name rest (with_default rows a))
  where
    go : (b : Bool) → gives_default name a ≡ b → (b || list_any (gives_default name) rest) ≡ true
        → (list_any (gives_default name) rest ≡ true → has_row name (fold with_default (with_default rows a) rest) ≡ true)
        → has_row name (fold with_default (with_default rows a) rest) ≡ true
    go true is e more = stays_defaults name rest (with_default rows a) (default_has name a rows is)
    go false is e more = more e

-- Where clap's model finds no error in the words of a command that has no subcommand, its rows are good in the end.
use Rattle.std.proofs.Common.{◌≡◌, ◌∙◌, ℕ, Bool, true, false, List, [], ◌∷◌, length, zero, suc, Option, Some, None, refl, sym, subst}
use Rattle.std.specs.Prelude.{◌&&◌, cond, drop, encode_utf8, fold, find, is_some, not, slice_get}
use Rattle.std.specs.Option.{option_map_or}
use Rattle.std.specs.Str.{bytes_eq, chars}
use Rattle.clap.specs.Lexer.{long_of, short_of}
use Rattle.clap.specs.Walk.{Held, Outcome, Row, Rule, Step, Text, Waiting, Walk, after_flag, after_step, arg_by_id, arg_by_index, arg_by_long, arg_by_short, bundle, bundle_met, bundle_step, done, flag_met, has_long, idle, is_pending, long_met, long_or_other, next, nothing_held, option, option_met, option_word, plain, plain_word, positional, reacted, refused, rows_after, settled, settled_rows, short_met, short_or_plain, subcommand, subcommand_or_other, takes_several, takes_values, to_positional, trailing, used_by_id, value, waits, walk_from, walked, walked_from, word_met}
use Rattle.clap.specs.Simple.{Shape}
use Rattle.clap.specs.Faults.{flag_word_fault, level_fault, long_fault, option_fault, other_fault, positional_fault, react_fault, settle_fault, step_fault, stray_fault, turn_fault, use_fault, walk_fault, word_fault}
use Rattle.clap.specs.declared.builder.value_parser.ValueParser.{ValueParser}
use Rattle.clap.specs.declared.error.kind.ErrorKind.TheVariants.{TooManyValues}
use Rattle.command_words.proofs.Rows.{AllFit, AreGood, Fits, defaults_good, neither, used_good}

-- no argument has a short name
abbrev pub HasNoShort : List Rule → Type 0
HasNoShort rules = (x : ℕ) → arg_by_short rules x ≡ None

plain_rows : (rules : List Rule) (waiting : Waiting) (word : Text) (h : Held) → (plain_word rules waiting word h).0.rows ≡ h.rows
plain_rows rules idle word h = refl
plain_rows rules positional word h = refl
plain_rows rules (option id) word h = go (arg_by_id rules id)
  where
    go : (found : Option Rule) → (option_word found id word h).0.rows ≡ h.rows
    go None = refl
    go (Some a) = refl

after_rows : (rules : List Rule) (waiting : Waiting) (word : Text) (h : Held) (o : Outcome) → (after_flag rules waiting word h o).0.rows ≡ h.rows
after_rows rules waiting word h done = refl
after_rows rules waiting word h (waits id) = refl
after_rows rules waiting word h plain = plain_rows rules waiting word h
after_rows rules waiting word h refused = plain_rows rules waiting word h

bundle_rows : (rules : List Rule) → HasNoShort rules → (k : ℕ) (flags : Text) (skip : ℕ) (so_far : Outcome) (h : Held) → (bundle_met rules k flags skip so_far h).0.rows ≡ h.rows
unfolding bundle_met
bundle_rows rules none zero flags skip so_far h = refl
bundle_rows rules none (suc k) flags skip so_far h = go (slice_get (chars flags) 0) skip (λ rest n. bundle_rows rules none k rest n so_far h)
  where
    go : (o : Option ℕ) (skip : ℕ) → ((rest : Text) (n : ℕ) → (bundle_met rules k rest n so_far h).0.rows ≡ h.rows)
        → (bundle_step rules o flags skip so_far h (bundle_met rules k)).0.rows ≡ h.rows
    go None skip more = refl
    go (Some x) zero more =
        let rest = drop (length (encode_utf8 x)) flags in
        subst (λ found. (short_met rules found rest h (bundle_met rules k rest 0 done)).0.rows ≡ h.rows) (sym (none x)) refl
    go (Some x) (suc skip) more = more (drop (length (encode_utf8 x)) flags) skip

module _ (name : Text) (p : ValueParser) where
  FitsIfSome : Option Rule → Type 0
  FitsIfSome None = Unit {0}
  FitsIfSome (Some a) = Fits name p a

  found_fits : (q : Rule → Bool) (rules : List Rule) → AllFit name p rules → FitsIfSome (find q rules)
  unfolding FitsIfSome
  found_fits q [] fit = tt
  found_fits q (a ∷ rest) fit = go (q a) (found_fits q rest fit.1)
    where
      go : (b : Bool) → FitsIfSome (find q rest) → FitsIfSome (cond b (Some a) (find q rest))
      go true more = fit.0
      go false more = more

  from_rows : (a b : List Row) → a ≡ b → AreGood name p b → AreGood name p a
  from_rows a b e h = subst (AreGood name p) (sym e) h

  module _ (rules : List Rule) (fit : AllFit name p rules) (none : HasNoShort rules) (again : Bool) where
    used_found : (found : Option Rule) → FitsIfSome found → (values : List Text) (rows : List Row) → option_map_or (λ a. use_fault again a values rows) found [] ≡ []
        → AreGood name p rows → AreGood name p (used_by_id found values rows)
    unfolding FitsIfSome
    used_found None fits values rows e good = good
    used_found (Some a) fits values rows e good = used_good name p a fits again values rows e good

    settled_good : (h : Held) → settle_fault rules again h ≡ [] → AreGood name p h.rows → AreGood name p (settled rules h).rows
    settled_good h e good = go h.pending e
      where
        go : (o : Option (Text × List Text)) → settle_fault rules again (record h { pending = o }) ≡ [] → AreGood name p (settled_rows rules o h.rows)
        go None e = good
        go (Some q) e = used_found (arg_by_id rules q.0) (found_fits (λ a. bytes_eq a.id q.0) rules fit) q.1 h.rows e good

    reacted_good : (a : Rule) → Fits name p a → (values : List Text) (h : Held) → react_fault rules again a values h ≡ [] → AreGood name p h.rows
        → AreGood name p (reacted rules a values h).rows
    reacted_good a fits values h e good =
        let parts = neither _ _ e in
        used_good name p a fits again values (settled rules h).rows parts.1 (settled_good h parts.0 good)

    option_good : (a : Rule) → Fits name p a → (v : Option Text) (h : Held) → option_fault rules again a v h ≡ [] → AreGood name p h.rows
        → AreGood name p (option_met rules a v h).0.rows
    option_good a fits None h e good = settled_good h e good
    option_good a fits (Some v) h e good = reacted_good a fits (v ∷ []) h e good

    flag_good : (a : Rule) → Fits name p a → (v : Option Text) (h : Held) → cond (is_some v) (TooManyValues ∷ []) (react_fault rules again a [] h) ≡ []
        → AreGood name p h.rows → AreGood name p (flag_met rules a v h).0.rows
    flag_good a fits None h e good = reacted_good a fits [] h e good
    flag_good a fits (Some v) h e good = good

    long_good : (found : Option Rule) → FitsIfSome found → (v : Option Text) (h : Held) → long_fault rules again found v h ≡ [] → AreGood name p h.rows
        → AreGood name p (long_met rules found v h).0.rows
    unfolding FitsIfSome
    long_good None fits v h e good = good
    long_good (Some a) fits v h e good = go (takes_values a) e
      where
        go : (b : Bool) → cond b (option_fault rules again a v h) (cond (is_some v) (TooManyValues ∷ []) (react_fault rules again a [] h)) ≡ []
            → AreGood name p (cond b (option_met rules a v h) (flag_met rules a v h)).0.rows
        go true e = option_good a fits v h e good
        go false e = flag_good a fits v h e good

    flag_word_good : (waiting : Waiting) (word : Text) (o : Option (Text × Option Text)) (h : Held) → flag_word_fault rules again o word h ≡ [] → AreGood name p h.rows
        → AreGood name p (long_or_other rules waiting word o h).0.rows
    flag_word_good waiting word (Some q) h e good =
        let met = long_met rules (arg_by_long rules q.0) q.1 h in
        from_rows _ met.0.rows (after_rows rules waiting word met.0 met.1)
        (long_good (arg_by_long rules q.0) (found_fits (λ a. not (is_some a.index) && has_long a q.0) rules fit) q.1 h e good)
    flag_word_good waiting word None h e good = go (short_of word)
      where
        go : (o : Option Text) → AreGood name p (short_or_plain rules waiting word o h).0.rows
        go None = from_rows _ h.rows (plain_rows rules waiting word h) good
        go (Some flags) =
            let met = bundle rules flags h in
            from_rows _ h.rows (after_rows rules waiting word met.0 met.1 ∙ bundle_rows rules none (length flags) flags h.skip plain (record h { skip = 0 })) good

    positional_good : (a : Rule) (word : Text) (w : Walk) (h : Held) → positional_fault rules again a h ≡ [] → AreGood name p h.rows
        → AreGood name p (to_positional rules (Some a) word w h).held.rows
    positional_good a word w h e good = go (is_pending a h.pending && takes_several a) e
      where
        go : (b : Bool) → cond b [] (settle_fault rules again h) ≡ [] → AreGood name p (cond b h (settled rules h)).rows
        go true e = good
        go false e = settled_good h e good

  module _ (s : Shape) (fit : AllFit name p s.rules) (none : HasNoShort s.rules) where
    other_good : (waiting : Waiting) (position : ℕ) (word : Text) (h : Held) → other_fault s None word h ≡ [] → AreGood name p h.rows
        → AreGood name p (subcommand_or_other s.rules None waiting position word h).0.rows
    other_good waiting position word h e good = go (bytes_eq word (45 ∷ 45 ∷ [])) e
      where
        go : (b : Bool) → cond b [] (flag_word_fault s.rules s.args_override_self (long_of word) word h) ≡ []
            → AreGood name p (cond b (h, trailing position) (long_or_other s.rules waiting word (long_of word) h)).0.rows
        go true e = good
        go false e = flag_word_good s.rules fit none s.args_override_self waiting word (long_of word) h e good

    met_good : (is_trailing : Bool) (waiting : Waiting) (position : ℕ) (word : Text) (h : Held) → word_fault s [] is_trailing waiting word h ≡ [] → AreGood name p h.rows
        → AreGood name p (word_met s.rules [] is_trailing waiting position word h).0.rows
    met_good true waiting position word h e good = good
    met_good false idle position word h e good = other_good idle position word h e good
    met_good false (option id) position word h e good = other_good (option id) position word h e good
    met_good false positional position word h e good = other_good positional position word h e good

    step_good : (word : Text) (w : Walk) (h : Held) (step : Step) → step_fault s w.position h step ≡ [] → AreGood name p h.rows
        → AreGood name p (after_step s.rules word w h step).held.rows
    step_good word w h (next waiting) e good = good
    step_good word w h (trailing position) e good = good
    step_good word w h (subcommand name) e good = good
    step_good word w h value e good = go (arg_by_index s.rules w.position) e
      where
        go : (o : Option Rule) → option_map_or (λ a. positional_fault s.rules s.args_override_self a h) o (stray_fault s) ≡ []
            → AreGood name p (to_positional s.rules o word w h).held.rows
        go None e = good
        go (Some a) e = positional_good s.rules fit none s.args_override_self a word w h e good

    walked_good : (w : Walk) (word : Text) → turn_fault s [] w word ≡ [] → AreGood name p w.held.rows → AreGood name p (walked s.rules [] w word).held.rows
    unfolding walked
    walked_good w word e good = go w.stopped e
      where
        go : (o : Option (Text × List Text)) → turn_fault s [] (record w { stopped = o }) word ≡ [] → AreGood name p (walked_from s.rules [] o w word).held.rows
        go (Some q) e = good
        go None e =
            let met = word_met s.rules [] w.is_trailing w.waiting w.position word w.held in
            let parts = neither _ _ e in
            step_good word w met.0 met.1 parts.1 (met_good w.is_trailing w.waiting w.position word w.held parts.0 good)

    walk_good : (words : List Text) (w : Walk) → walk_fault s [] w words ≡ [] → AreGood name p w.held.rows → AreGood name p (fold (walked s.rules []) w words).held.rows
    unfolding walk_fault
    walk_good [] w e good = good
    walk_good (x ∷ xs) w e good =
        let parts = neither _ _ e in
        walk_good xs (walked s.rules [] w x) parts.1 (walked_good w x parts.0 good)

    -- after the words, and the defaults
    pub level_good : (words : List Text) → level_fault s [] nothing_held words false [] ≡ [] → AreGood name p (rows_after s.rules [] words)
    level_good words e =
        let front = neither _ _ e in
        let parts = neither _ _ front.1 in
        let end = (fold (walked s.rules []) (walk_from nothing_held) words).held in
        defaults_good name p s.rules fit (settled s.rules end).rows (neither _ _ parts.1).0
        (settled_good s.rules fit none s.args_override_self end parts.0 (walk_good words (walk_from nothing_held) front.0 tt))

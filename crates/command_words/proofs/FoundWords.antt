-- The words that were found for ARGS, and the loop over them.
use Rattle.std.proofs.Common.{◌≡◌, ◌∙◌, ◌<◌, ◌+◌, ◌++◌, ℕ, List, [], ◌∷◌, Bor, Option, Some, None, length, refl, ap, sym, add-one, append_assoc, drop-cons}
use Rattle.std.specs.Prelude.{drop, map, option_and_then, option_map, slice_index_or, unwrap_or}
use Rattle.clap.specs.Walk.{Text}
use Rattle.command_words.specs.Arguments.{argument_in, arguments_in}
use Rattle.command_words.specs.declared.argument.Argument.{Argument}

-- the arguments xs of the words before index i, and then those of the words from there on
pub one_more : (ws : List (Bor Text)) (i : ℕ) (w : Bor Text) (xs : List Argument) (a : Argument) → i < length ws → argument_in (slice_index_or ws i w).now ≡ Some a
    → arguments_in (map (λ w. w.now) ws) ≡ option_map (λ rest. xs ++ rest) (arguments_in (map (λ w. w.now) (drop i ws)))
    → arguments_in (map (λ w. w.now) ws) ≡ option_map (λ rest. (xs ++ a ∷ []) ++ rest) (arguments_in (map (λ w. w.now) (drop (i + 1) ws)))
one_more ws i w xs a below is before = before ∙ ap (λ l. option_map (λ rest. xs ++ rest) (arguments_in (map (λ w. w.now) l))) cut ∙ go (arguments_in (map (λ w. w.now) (drop (i + 1) ws)))
  where
    cut : drop i ws ≡ slice_index_or ws i w ∷ drop (i + 1) ws
    cut = rw (add-one, drop-cons ws i w below) refl

    go : (l : Option (List Argument)) → option_map (λ rest. xs ++ rest) (option_and_then (λ x. option_map (λ rest. x ∷ rest) l) (argument_in (slice_index_or ws i w).now))
        ≡ option_map (λ rest. (xs ++ a ∷ []) ++ rest) l
    go l = rw is (both l)
      where
        both : (l : Option (List Argument)) → option_map (λ rest. xs ++ rest) (option_map (λ rest. a ∷ rest) l) ≡ option_map (λ rest. (xs ++ a ∷ []) ++ rest) l
        both None = refl
        both (Some m) = ap Some (sym (append_assoc xs (a ∷ []) m))

pub words_found : (r : Option (Bor (List (Bor Text)))) (none : Bor (List (Bor Text))) → none.now ≡ [] → map (λ w. w.now) (unwrap_or r none).now ≡ unwrap_or (option_map (λ s. map (λ w. w.now) s.now) r) []
words_found None none e = ap (map (λ w. w.now)) e
words_found (Some s) none e = refl

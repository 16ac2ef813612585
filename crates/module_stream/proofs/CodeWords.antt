-- Codes of bodies, and the instruction words of all of them.
use Rattle.std.proofs.Common.{◌≡◌, ℕ, suc, ◌+◌, List, [], ◌∷◌, ◌++◌, map, length, refl, sym, ap, ◌∙◌, append_assoc, arith, length-append, Option, Some, None}
use Rattle.std.specs.Prelude.{IfSome, option_map}
use Rattle.std.proofs.lemmas.List.{append-nil}
use Rattle.rv_isa.specs.declared.compiled.Code.{Code}
use Rattle.wasm_defs.specs.declared.item.Item.{Item}
use Rattle.wasm_defs.specs.Trees.{Seq}
use Rattle.wasm_defs.specs.Outside.{Part, Section, Listed, Coded, Body, module_read}
use Rattle.wasm_defs.specs.Typing.{Context}
use Rattle.wasm_defs.specs.declared.item.Limits.{Limits}
use Rattle.wasm_defs.specs.Context.{context_of, import_count, tables_of, body_context, type_of_function, declared_types, like}
use Rattle.wasm_defs.specs.Places.{places_of, greatest}
use Rattle.wasm_defs.specs.Configurations.{Origin}
use Rattle.wasm_defs.specs.Instances.{first_minimum, origin_of}
use Rattle.frame_layout.specs.Templates.{EmitContext}
use Rattle.frame_layout.specs.Functions.{no_distance, function_code, calls_of, sites_of}
use Rattle.rv_isa.specs.Words.{word_of}
use Rattle.rv_isa.specs.declared.operations.Op.{Op}
use Rattle.wasm_defs.specs.Faults.{items_of, bodies_of, read_of, context_at, offsets_of}
use Rattle.wasm_laws.specs.Behind.{SayTheSame}
use Rattle.wasm_laws.proofs.Behind.{bodies_stand_behind}
use Rattle.image_linker.specs.ImageOf.{size_of, around}
use Rattle.image_linker.specs.Linking.{words_of}
use Rattle.image_linker.specs.Codes.{IsCodeOf, AreCodesOf}
use Rattle.image_linker.specs.Judging.{sizes}
use Rattle.module_stream.specs.Codes.{Coding, AreAll, with_code}
use Rattle.module_stream.specs.Progress.{AreCodes}
use Rattle.wasm_laws.proofs.PartLists.{items_of-append}

-- ---- one more code

words_more : (xs : List Code) (x : Code) → length (words_of (xs ++ x ∷ [])) ≡ length (words_of xs) + length x.words
words_more [] x = let none : List ℕ = [] in omega (arith, length-append x.words none)
words_more (y ∷ xs) x = omega (arith, words_more xs x, length-append y.words (words_of (xs ++ x ∷ [])), length-append y.words (words_of xs))

kept_more : (o : Option (List Code)) (all : List Code) (code : Code) → IfSome o (λ k. k ≡ all) → IfSome (option_map (λ codes. codes ++ code ∷ []) o) (λ k. k ≡ all ++ code ∷ [])
kept_more None all code h = tt
kept_more (Some k) all code h = ap (λ (l : List Code). l ++ code ∷ []) h

pub all_more : (c : Coding) (all : List Code) (code : Code) → AreAll c all → AreAll (with_code c code) (all ++ code ∷ [])
all_more c all code a = record {
  count = omega (arith, a.count, length-append all (code ∷ []));
  words = omega (arith, a.words, words_more all code);
  kept = kept_more c.kept all code a.kept;
}

pub codes_both : (items : List Item) (k : ℕ) (front rest : List Part) (trees more : List Seq) (codes others : List Code) → AreCodes items k front trees codes
    → AreCodes (items ++ items_of front) (k + length (bodies_of front)) rest more others → AreCodes items k (front ++ rest) (trees ++ more) (codes ++ others)
codes_both items k [] rest [] more [] others p q = let e : k + 0 ≡ k = omega arith in rw (append-nil, e) at q
codes_both items k [] rest [] more (c ∷ codes) others p q = absurd p
codes_both items k [] rest (t ∷ trees) more codes others p q = absurd p
codes_both items k (Section at position ∷ front) rest trees more codes others p q = codes_both items k front rest trees more codes others p q
codes_both items k (Listed x ∷ front) rest trees more codes others p q = codes_both (items ++ x ∷ []) k front rest trees more codes others p (rw (append_assoc items (x ∷ []) (items_of front)) q)
codes_both items k (Coded b ∷ front) rest [] more codes others p q = absurd p
codes_both items k (Coded b ∷ front) rest (t ∷ trees) more [] others p q = absurd p
codes_both items k (Coded b ∷ front) rest (t ∷ trees) more (c ∷ codes) others p q =
    let e : suc k + length (bodies_of front) ≡ k + suc (length (bodies_of front)) = omega arith in (p.0, codes_both items (suc k) front rest trees more codes others p.1 (rw e q))

-- ---- a body's code, by all items of the module and by those before it

module _ (all first : List Item) (same : SayTheSame all first) (k : ℕ) (b : Body) (tree : Seq) where
  -- what depends on the items depends on these three alone
  pub by_three : {A : Type 0} (f : Context → ℕ → List Limits → A) → f (context_of all) (import_count all) (tables_of all) ≡ f (context_of first) (import_count first) (tables_of first)
  by_three f =
      ap (λ (c : Context). f c (import_count all) (tables_of all)) same.context
      ∙ ap (λ (n : ℕ). f (context_of first) n (tables_of all)) same.imports
      ∙ ap (λ (t : List Limits). f (context_of first) (import_count first) t) same.tables

  abbrev context_by : Context → ℕ → Context
  context_by c n = body_context c (type_of_function c (n + k)) (read_of b).groups

  abbrev around_by : Context → ℕ → List Limits → EmitContext
  around_by c n t = record {
    layout = record {
      params = length (type_of_function c (n + k)).params;
      locals = length (declared_types (read_of b).groups);
      greatest = greatest (places_of (context_by c n) tree);
    };
    rows = first_minimum t;
    like = like c.types;
    distance_to = no_distance;
  }

  abbrev origin_by : ℕ → Origin
  origin_by n = record { index = n + k; first = b.first; offsets = offsets_of (read_of b).code.tokens }

  pub same_size : size_of all k b tree ≡ size_of first k b tree
  same_size = by_three (λ c n t. length (function_code (around_by c n t) (context_by c n) tree))

  same_words : function_code (around all k b tree no_distance) (context_at all k b) tree ≡ function_code (around first k b tree no_distance) (context_at first k b) tree
  same_words = by_three (λ c n t. function_code (around_by c n t) (context_by c n) tree)

  same_calls : calls_of (around all k b tree no_distance) (context_at all k b) tree ≡ calls_of (around first k b tree no_distance) (context_at first k b) tree
  same_calls = by_three (λ c n t. calls_of (around_by c n t) (context_by c n) tree)

  same_sites : sites_of (around all k b tree no_distance) (origin_of all k b) (context_at all k b) tree ≡ sites_of (around first k b tree no_distance) (origin_of first k b) (context_at first k b) tree
  same_sites = by_three (λ c n t. sites_of (around_by c n t) (origin_by n) (context_by c n) tree)

  pub same_code : (code : Code) → IsCodeOf first k b tree code → IsCodeOf all k b tree code
  same_code code h = record {
    words = h.words ∙ ap (λ (ops : List Op). map word_of ops) (sym same_words);
    relocations = h.relocations ∙ sym same_calls;
    traps = h.traps ∙ sym same_sites;
    size = h.size ∙ sym same_size;
  }

-- ---- all codes of a module

-- the codes of the parts, which follow others in the module, are those of its bodies by all items
codes_of_parts : (bytes : List ℕ) (front parts : List Part) (k : ℕ) (trees : List Seq) (codes : List Code) → (module_read bytes).parts ≡ front ++ parts
    → AreCodes (items_of front) k parts trees codes → AreCodesOf (items_of (module_read bytes).parts) k (bodies_of parts) trees codes
codes_of_parts bytes front [] k [] [] e h = tt
codes_of_parts bytes front [] k [] (c ∷ codes) e h = absurd h
codes_of_parts bytes front [] k (t ∷ trees) codes e h = absurd h
codes_of_parts bytes front (Section at position ∷ parts) k trees codes e h =
    codes_of_parts bytes (front ++ Section at position ∷ []) parts k trees codes (e ∙ sym (append_assoc front (Section at position ∷ []) parts))
    (rw (items_of-append front (Section at position ∷ []), append-nil (items_of front)) h)
codes_of_parts bytes front (Listed x ∷ parts) k trees codes e h =
    codes_of_parts bytes (front ++ Listed x ∷ []) parts k trees codes (e ∙ sym (append_assoc front (Listed x ∷ []) parts))
    (rw (items_of-append front (Listed x ∷ [])) h)
codes_of_parts bytes front (Coded b ∷ parts) k (t ∷ trees) (c ∷ codes) e h =
    let behind = bodies_stand_behind bytes front b parts e in (
      same_code (items_of (module_read bytes).parts) (items_of front) behind.same k b t c h.0,
      codes_of_parts bytes (front ++ Coded b ∷ []) parts (suc k) trees codes (e ∙ sym (append_assoc front (Coded b ∷ []) parts))
          (rw (items_of-append front (Coded b ∷ []), append-nil (items_of front)) h.1),
    )
codes_of_parts bytes front (Coded b ∷ parts) k [] codes e h = absurd h
codes_of_parts bytes front (Coded b ∷ parts) k (t ∷ trees) [] e h = absurd h

pub codes_of_module : (bytes : List ℕ) (trees : List Seq) (codes : List Code) → AreCodes [] 0 (module_read bytes).parts trees codes
    → AreCodesOf (items_of (module_read bytes).parts) 0 (bodies_of (module_read bytes).parts) trees codes
codes_of_module bytes trees codes h = codes_of_parts bytes [] (module_read bytes).parts 0 trees codes refl h

pub words_are_sizes : (items : List Item) (k : ℕ) (bodies : List Body) (trees : List Seq) (codes : List Code) → AreCodesOf items k bodies trees codes → length (words_of codes) ≡ sizes items k bodies trees
words_are_sizes items k [] [] [] h = refl
words_are_sizes items k (b ∷ bodies) (t ∷ trees) (c ∷ codes) h = omega (arith, length-append c.words (words_of codes), h.0.size, words_are_sizes items (suc k) bodies trees codes h.1)
words_are_sizes items k [] [] (c ∷ codes) h = absurd h
words_are_sizes items k [] (t ∷ trees) codes h = absurd h
words_are_sizes items k (b ∷ bodies) [] codes h = absurd h
words_are_sizes items k (b ∷ bodies) (t ∷ trees) [] h = absurd h

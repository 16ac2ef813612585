-- The tokens of loads and stores (WebAssembly Core 1.0, 2.4.4), and their instruction words.
use Rattle.std.specs.Prelude.{ℕ, List, []}
use Rattle.rv_isa.specs.declared.operations.Op.{Op}
use Rattle.wasm_defs.specs.declared.token.Plain.TheVariants.{Load, Store}
use Rattle.wasm_defs.specs.declared.token.Token.{Token}
use Rattle.wasm_defs.specs.declared.token.Token.TheVariants.{Plain}
use Rattle.frame_layout.specs.Templates.{EmitContext, load_words, store_words}

abbrev pub IsLoad : Token → Type 0
IsLoad (Plain (Load op m)) = Unit {0}
IsLoad _ = ⊥

abbrev pub IsStore : Token → Type 0
IsStore (Plain (Store op m)) = Unit {0}
IsStore _ = ⊥

abbrev pub access_words : EmitContext → (height : ℕ) → Token → List Op
access_words w h (Plain (Load op m)) = load_words w h op m.offset
access_words w h (Plain (Store op m)) = store_words w h op m.offset
access_words w h _ = []

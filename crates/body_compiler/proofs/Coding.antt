-- Bodies and their codes.
use Rattle.std.proofs.Common.{◌≡◌, ◌<◌, ◌≤◌, ℕ, ◌+◌, List, [], ◌∷◌, ◌++◌, length, take, drop, None, Some, Err, sym, ap, ◌∙◌, subst, arith}
use Rattle.std.specs.Prelude.{is_some}
use Rattle.std.proofs.lemmas.List.{take_all, take_more, drop_more, take-append-drop}
use Rattle.wasm_defs.specs.declared.fault.Refusal.{Refusal}
use Rattle.wasm_defs.specs.Bodies.{body_read}
use Rattle.index_spaces.specs.Spaces.{Spaces, context_in}
use Rattle.result_cells.specs.Rooms.{Store, Short}
use Rattle.wasm_laws.proofs.Verdicts.{code_fault_inside}
use Rattle.body_cutter.specs.Bodies.{Body, body_at, no_body}
use Rattle.body_compiler.specs.declared.code.BodyStop.TheVariants.{Refused}
use Rattle.body_compiler.specs.Compiling.{context_of_body}
use Rattle.body_compiler.specs.declared.batch.row.RowCode.{RowCode}
use Rattle.body_compiler.specs.LowBatches.{IsLowBody}
use Rattle.body_compiler.specs.declared.code.BodyStop.{BodyStop}
use Rattle.body_compiler.specs.declared.batch.bodies.Made.TheVariants.{Faulty}
use Rattle.body_compiler.specs.BatchRows.{CompilesBody, IsCodeFor, AreCodesFor, IsExhausted, IsRow, IsMade}

pub fault_inside : (c : Spaces) (b : Body) (r : Refusal) → IsLowBody b → CompilesBody c b (Err (Refused r)) → r.offset < b.first + length b.bytes
fault_inside c b r low fault = let some = low.some in
    (code_fault_inside (context_of_body (context_in c) b.index (body_read (is_some c.data_count) b.first b.bytes)) (record { counted = is_some c.data_count; size = b.size; first = b.first; bytes = b.bytes }) r (omega arith) fault).1

module _ (c : Spaces) (cells : Store) where
  codes_push : (bs : List Body) (ks : List RowCode) (b : Body) (k : RowCode) → AreCodesFor c cells bs ks → IsCodeFor c cells b k → AreCodesFor c cells (bs ++ b ∷ []) (ks ++ k ∷ [])
  codes_push [] [] b k are is = (is, tt)
  codes_push [] (x ∷ ks) b k are is = absurd are
  codes_push (y ∷ bs) [] b k are is = absurd are
  codes_push (y ∷ bs) (x ∷ ks) b k are is = (are.0, codes_push bs ks b k are.1 is)

  -- the codes of the bodies before an index, and of the one there
  pub codes_next : (bodies : List Body) (i : ℕ) (b : Body) (codes codes' : List RowCode) (k : RowCode) → i < length bodies → b ≡ body_at bodies i
      → AreCodesFor c cells (take i bodies) codes → IsCodeFor c cells b k → codes' ≡ codes ++ k ∷ [] → AreCodesFor c cells (take (i + 1) bodies) codes'
  codes_next bodies i b codes codes' k lt at are is more =
      let taken : take (i + 1) bodies ≡ take i bodies ++ b ∷ [] = take_more bodies i no_body lt ∙ ap (λ (x : Body). take i bodies ++ x ∷ []) (sym at) in
      subst (λ (z : List Body × List RowCode). AreCodesFor c cells z.0 z.1) (λ j. (sym taken j, sym more j)) (codes_push (take i bodies) codes b k are is)

  -- compiling stops at the body of an index
  pub row_faulty : (bodies : List Body) (i : ℕ) (b : Body) (codes : List RowCode) (r : Refusal) → i < length bodies → b ≡ body_at bodies i
      → AreCodesFor c cells (take i bodies) codes → IsMade c cells b (Faulty r) → IsRow c cells bodies codes (Some r) None
  row_faulty bodies i b codes r lt at are is =
      let rest : drop i bodies ≡ b ∷ drop (i + 1) bodies = drop_more bodies i no_body lt ∙ ap (λ (x : Body). x ∷ drop (i + 1) bodies) (sym at) in
      (take i bodies, b, drop (i + 1) bodies, sym (take-append-drop i bodies) ∙ ap (λ (l : List Body). take i bodies ++ l) rest, are, is.0, is.1)

  pub row_cut : (bodies : List Body) (i : ℕ) (codes : List RowCode) (short : Short) → AreCodesFor c cells (take i bodies) codes → IsExhausted cells short
      → IsRow c cells bodies codes None (Some short)
  row_cut bodies i codes short are full = (take i bodies, drop i bodies, sym (take-append-drop i bodies), are, full)

  pub row_whole : (bodies : List Body) (i : ℕ) (codes : List RowCode) → length bodies ≤ i → AreCodesFor c cells (take i bodies) codes → IsRow c cells bodies codes None None
  row_whole bodies i codes all are = subst (λ (l : List Body). AreCodesFor c cells l codes) (take_all i bodies all) are

-- what compiling answered, where that is an error
pub refused_of : (c : Spaces) (b : Body) (stop : BodyStop) (r : Refusal) → stop ≡ Refused r → CompilesBody c b (Err stop) → CompilesBody c b (Err (Refused r))
refused_of c b stop r is compiled = subst (λ (s : BodyStop). CompilesBody c b (Err s)) is compiled

-- Errors stay, whatever follows.
use Rattle.std.proofs.Common.{◌≤◌, ◌-◌, ℕ, inl, inr, List, ◌∷◌, ◌++◌, length, take, sym, ap, ◌∙◌, subst, append_assoc}
use Rattle.wasm_laws.proofs.Windows.{take_over}
use Rattle.many_streams.specs.declared.limits.TheConstants.{MAX_INPUT}
use Rattle.many_streams.specs.Frames.{Chunk, u32, encoding, Begins, IsError, IsBadFrame}

pub begins_more : (bytes : List ℕ) (count : ℕ) (cs : List Chunk) (rest more : List ℕ) → Begins bytes count cs rest
    → Begins (bytes ++ more) count cs (rest ++ more)
begins_more bytes count cs rest more b = record { formed = b.formed; are = ap (λ (l : List ℕ). l ++ more) b.are ∙ append_assoc (encoding count cs) rest more }

pub error_stays : (bytes : List ℕ) (at : ℕ) (more : List ℕ) → IsError bytes at → IsError (bytes ++ more) at
error_stays bytes at more (inl e) =
    inl (record {
      place = e.place;
      count = e.count;
      more = e.more ++ more;
      fits = e.fits;
      bad = e.bad;
      are = ap (λ (l : List ℕ). l ++ more) e.are
          ∙ append_assoc (u32 e.count) e.more more;
    })
error_stays bytes at more (inr (inl e)) = inr (inl (record {
  count = e.count;
  chunks = e.chunks;
  index = e.index;
  more = e.more ++ more;
  begins =
      subst (Begins (bytes ++ more) e.count e.chunks) (append_assoc (u32 e.index) e.more more) (begins_more bytes e.count e.chunks (u32 e.index ++ e.more) more e.begins);
  owes = e.owes;
  fits = e.fits;
  bad = e.bad;
  place = e.place;
}))
error_stays bytes at more (inr (inr e)) = inr (inr (record {
  count = e.count;
  chunks = e.chunks;
  byte = e.byte;
  more = e.more ++ more;
  begins = begins_more bytes e.count e.chunks (e.byte ∷ e.more) more e.begins;
  ended = e.ended;
  place = e.place;
}))

-- an error in an input of no more bytes than one may have
pub error_refused : (bytes : List ℕ) (at : ℕ) (more : List ℕ) → length bytes ≤ MAX_INPUT → IsError bytes at → IsBadFrame (bytes ++ more) at
error_refused bytes at more few e =
    inl (subst (λ (l : List ℕ). IsError l at) (sym (take_over MAX_INPUT bytes more few)) (error_stays bytes at (take (MAX_INPUT - length bytes) more) e))

-- Bytes of a module were read.
use Rattle.std.proofs.Common.{◌≡◌, ◌≢◌, ◌<◌, ◌≤◌, ◌+◌, ◌-◌, ℕ, Ok, Bool, true, false, ◌||◌, ◌&&◌, eqb, cond, min, List, [], ◌∷◌, ◌++◌, length, take, sym, refl, ap, ◌∙◌, subst, arith, append_assoc, length-append}
use Rattle.std.proofs.lemmas.Bool.{ne_eqb}
use Rattle.std.proofs.lemmas.List.{length-take, append-nil}
use Rattle.many_streams.specs.declared.limits.TheConstants.{MAX_INPUT}
use Rattle.many_streams.specs.declared.reader.Next.{Next}
use Rattle.many_streams.specs.declared.reader.Next.TheVariants as next
use Rattle.many_streams.specs.declared.reader.Taken.TheVariants as taken
use Rattle.many_streams.specs.Frames.{Chunk, u32, encoding, bytes_of, ends, is_ended, MayFollow, IsBadFrame}
use Rattle.many_streams.specs.Reading.{Progress, IsReading, StandsAt, with_more, Takes}
use Rattle.batch_pool.proofs.GatheringLaws.{or_false}
use Rattle.many_streams.proofs.Chunks.{encoding-push, bytes_of-push, is_ended-push, formed_push}
use Rattle.many_streams.proofs.Ending.{cut_too_long}

and_false : (b : Bool) → (b && false) ≡ false
and_false true = refl
and_false false = refl

joined_bytes : (b : Bool) (old came more : List ℕ) → (old ++ cond b came []) ++ cond b more [] ≡ old ++ cond b (came ++ more) []
joined_bytes true old came more = append_assoc old came more
joined_bytes false old came more = append_assoc old [] []

-- more bytes of a module
joined_more : (of : ℕ → List ℕ) (cs : List Chunk) (m : ℕ) (came more : List ℕ) (i : ℕ) → of i ≡ bytes_of i cs ++ cond (eqb m i) came []
    → with_more of m more i ≡ bytes_of i cs ++ cond (eqb m i) (came ++ more) []
joined_more of cs m came more i is = ap (λ (l : List ℕ). l ++ cond (eqb m i) more []) is ∙ joined_bytes (eqb m i) (bytes_of i cs) came more

-- some of the bytes of a chunk came, and more of them are owed
pub bytes_on : (bytes : List ℕ) (of : ℕ → List ℕ) (f f' : Progress) (m left : ℕ) (more : List ℕ) → f.next ≡ next.Bytes m left → IsReading bytes of f
    → length more < left → f.at + length more ≤ MAX_INPUT
    → f' ≡ record f {
      at =
          f.at + length more;
      next = next.Bytes m (left - length more);
    } → IsReading (bytes ++ more) (with_more of m more) f' × (f'.modules ≡ f.modules) × (m < f.modules)
bytes_on bytes of f f' m left more at r some room same = on (subst (λ (p : Next). StandsAt p f bytes of) at r.stands)
  where
    on : StandsAt (next.Bytes m left) f bytes of → IsReading (bytes ++ more) (with_more of m more) f' × (f'.modules ≡ f.modules) × (m < f.modules)
    on (cs, came, among, going, none, owed, fits, are, each) =
        let sum = length-append bytes more in
        let came' = length-append came more in
        let at' = r.at in
        let n : length (came ++ more) + (left - length more) ≡ length came + left = omega arith in
        subst (λ (g : Progress). IsReading (bytes ++ more) (with_more of m more) g × (g.modules ≡ f.modules) × (m < f.modules)) (sym same) (
          record {
            few = omega arith;
            at = omega arith;
            stands = (
              cs,
              came ++ more,
              among,
              going,
              none,
              omega arith,
              omega arith,
              ap (λ (l : List ℕ). l ++ more) are ∙ (append_assoc (encoding f.modules cs) (u32 m ++ (u32 (length came + left) ++ came)) more
                  ∙ ap (λ (l : List ℕ). encoding f.modules cs ++ l) (append_assoc (u32 m) (u32 (length came + left) ++ came) more
                  ∙ ap (λ (l : List ℕ). u32 m ++ l) (append_assoc (u32 (length came + left)) came more ∙ ap (λ (k : ℕ). u32 k ++ (came ++ more)) (sym n)))),
              λ i. joined_more of cs m came more i (each i),
            );
          },
          refl,
          going.0,
        )

-- a chunk's last bytes came
pub bytes_out : (bytes : List ℕ) (of : ℕ → List ℕ) (f f' : Progress) (m left : ℕ) (more : List ℕ) → f.next ≡ next.Bytes m left → IsReading bytes of f
    → length more ≡ left → f.at + length more ≤ MAX_INPUT
    → f' ≡ record f {
      at =
          f.at + length more;
      next = next.Index;
    } → IsReading (bytes ++ more) (with_more of m more) f' × (f'.modules ≡ f.modules) × (m < f.modules)
bytes_out bytes of f f' m left more at r all room same = on (subst (λ (p : Next). StandsAt p f bytes of) at r.stands)
  where
    on : StandsAt (next.Bytes m left) f bytes of → IsReading (bytes ++ more) (with_more of m more) f' × (f'.modules ≡ f.modules) × (m < f.modules)
    on (cs, came, among, going, none, owed, fits, are, each) =
        let sum = length-append bytes more in
        let came' = length-append came more in
        let at' = r.at in
        let c : Chunk = record { index = m; bytes = came ++ more } in
        let n : length came + left ≡ length (came ++ more) = omega arith in
        let whole : bytes ++ more ≡ encoding f.modules (cs ++ c ∷ []) =
        ap (λ (l : List ℕ). l ++ more) are ∙ (append_assoc (encoding f.modules cs) (u32 m ++ (u32 (length came + left) ++ came)) more
        ∙ (ap (λ (l : List ℕ). encoding f.modules cs ++ l) (append_assoc (u32 m) (u32 (length came + left) ++ came) more
        ∙ ap (λ (l : List ℕ). u32 m ++ l) (append_assoc (u32 (length came + left)) came more ∙ ap (λ (k : ℕ). u32 k ++ (came ++ more)) n))
        ∙ sym (encoding-push f.modules cs c))) in
        let next : MayFollow f.modules cs c = record { going = going; short = omega arith } in
        let none' : (i : ℕ) → ends i c ≡ false =
        λ i. ap (λ (b : Bool). eqb m i && b) (ne_eqb (length (came ++ more)) 0 (λ e. absurd (omega arith))) ∙ and_false (eqb m i) in
        let kept : (i : ℕ) → is_ended i (cs ++ c ∷ []) ≡ is_ended i cs =
        λ i. is_ended-push i cs c ∙ (ap (λ (b : Bool). is_ended i cs || b) (none' i) ∙ or_false (is_ended i cs)) in
        subst (λ (g : Progress). IsReading (bytes ++ more) (with_more of m more) g × (g.modules ≡ f.modules) × (m < f.modules)) (sym same) (
          record {
            few = omega arith;
            at = omega arith;
            stands = (
              cs ++ c ∷ [],
              record {
                formed = formed_push f.modules cs c among.formed next;
                known = (among.known.0, λ i in'. among.known.1 i in' ∙ sym (kept i));
                owes = (among.owes.0, (among.owes.1.0, kept among.owes.0 ∙ among.owes.1.1));
              },
              whole ∙ (sym (append-nil (encoding f.modules (cs ++ c ∷ []))) ∙ ap (λ (l : List ℕ). encoding f.modules (cs ++ c ∷ []) ++ l) (sym none)),
              λ i. joined_more of cs m came more i (each i) ∙ sym (bytes_of-push i cs c),
            );
          },
          refl,
          going.0,
        )

-- ---- bytes of a module, as many as are there, are owed and have room

left_some : (bytes : List ℕ) (of : ℕ → List ℕ) (f : Progress) (m left : ℕ) → f.next ≡ next.Bytes m left → IsReading bytes of f → 0 < left
left_some bytes of f m left at r = on (subst (λ (p : Next). StandsAt p f bytes of) at r.stands)
  where
    on : StandsAt (next.Bytes m left) f bytes of → 0 < left
    on (cs, came, among, going, none, owed, fits, are, each) = owed

pub took_on : (bytes : List ℕ) (of : ℕ → List ℕ) (piece : List ℕ) (f f' : Progress) (m left n : ℕ) → f.next ≡ next.Bytes m left → IsReading bytes of f
    → 0 < length piece → f.at < MAX_INPUT → n ≢ left → n ≡ min (min (length piece) left) (MAX_INPUT - f.at)
    → f' ≡ record f { at = f.at + n; next = next.Bytes m (left - n) } → Takes bytes of piece (Ok (taken.Bytes m n)) f f'
took_on bytes of piece f f' m left n at r some room other is same =
    let l = length-take n piece in
    let owed = left_some bytes of f m left at r in
    let e : length (take n piece) ≡ n = omega arith in
    let b = bytes_on bytes of f f' m left (take n piece) at r (omega arith) (omega arith) (same
    ∙ ap (λ (k : ℕ). record f { at = f.at + k; next = next.Bytes m (left - k) }) (sym e)) in
    (b.0, b.1, b.2, omega arith, omega arith)

pub took_out : (bytes : List ℕ) (of : ℕ → List ℕ) (piece : List ℕ) (f f' : Progress) (m left n : ℕ) → f.next ≡ next.Bytes m left → IsReading bytes of f
    → 0 < length piece → f.at < MAX_INPUT → n ≡ left → n ≡ min (min (length piece) left) (MAX_INPUT - f.at)
    → f' ≡ record f { at = f.at + n; next = next.Index } → Takes bytes of piece (Ok (taken.Bytes m n)) f f'
took_out bytes of piece f f' m left n at r some room all is same =
    let l = length-take n piece in
    let owed = left_some bytes of f m left at r in
    let e : length (take n piece) ≡ n = omega arith in
    let b = bytes_out bytes of f f' m left (take n piece) at r (omega arith) (omega arith) (same
    ∙ ap (λ (k : ℕ). record f { at = f.at + k; next = next.Index }) (sym e)) in
    (b.0, b.1, b.2, omega arith, omega arith)

pub bytes_too_long : (bytes : List ℕ) (of : ℕ → List ℕ) (f : Progress) (piece more : List ℕ) (m left : ℕ) → f.next ≡ next.Bytes m left
    → IsReading bytes of f → 0 < length piece → f.at ≡ MAX_INPUT → IsBadFrame (bytes ++ (piece ++ more)) f.at
bytes_too_long bytes of f piece more m left at r some full =
    cut_too_long bytes of f piece more (λ is. other (sym at ∙ is)) (short (subst (λ (p : Next). StandsAt p f bytes of) at r.stands)) r some full
  where
    other : next.Bytes m left ≢ next.Nothing
    other is = cc

    short : StandsAt (next.Bytes m left) f bytes of → length f.number < 4
    short (cs, came, among, going, none, owed, fits, are, each) = let e = ap length none in omega arith

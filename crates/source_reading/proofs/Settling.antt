-- What was read settles the verdict of all that came.
use Rattle.std.proofs.Common.{◌≡◌, inl, inr, subst, ℕ, ◌^◌, ◌-◌, ◌<◌, ◌≤◌, true, false, List, [], ◌++◌, length, Option, Some, None, refl, sym, ap, ◌∙◌, take, drop, append_assoc, length-append, length-take, arith}
use Rattle.std.specs.Prelude.{IfSome}
use Rattle.std.specs.Io.KnownBytes.{IsAtEnd}
use Rattle.std.proofs.lemmas.Bool.{lt-ltb, le-ltb, cases_lt}
use Rattle.std.proofs.lemmas.List.{append-nil, take-append-drop}
use Rattle.wasm_defs.specs.declared.fault.Refusal.{Refusal}
use Rattle.wasm_defs.specs.Faults.{Verdict, Accepted, Rejected}
use Rattle.image_linker.specs.Judging.{IsVerdictOf}
use Rattle.io_edges.specs.Causes.{Rose}
use Rattle.source_reading.specs.Reading.{Settles}
use Rattle.source_reading.specs.Received.{IsRead, AreReceived}
use Rattle.module_stream.specs.Limits.{max_read}
use Rattle.module_stream.proofs.Once.{verdict_once}
use Rattle.module_stream.proofs.Staying.{no_module, verdict_stays}

-- ---- what came

none_left : (rest : Option (List ℕ)) → IsAtEnd rest → IfSome rest (λ l. [] ≡ l)
none_left None end = tt
none_left (Some l) end = sym end

at_end : (closing : Option ℕ) (read : List ℕ) (old new : Option (List ℕ)) → IsRead closing old new read → IsAtEnd new → AreReceived closing old new false read
at_end closing read old new is end = (read, [], is, none_left new end, sym (append-nil read))

when_full : (closing : Option ℕ) (read : List ℕ) (old new : Option (List ℕ)) → IsRead closing old new read → max_read ≤ length read → (bytes : List ℕ) × AreReceived closing old new false bytes × ((v : Verdict) → IsVerdictOf read v → IsVerdictOf bytes v)
when_full closing read old None is le = (read, (read, [], is, tt, sym (append-nil read)), λ v p. p)
when_full closing read old (Some r) is le = (read ++ r, (read, r, is, refl, refl), λ v p. verdict_stays read r le v p)

pub settled_end : (closing : Option ℕ) (read : List ℕ) (old new : Option (List ℕ)) (before now : ℕ) → IsRead closing old new read → IsAtEnd new → now ≡ before → Settles closing read false old new before now
settled_end closing read old new before now is end same = record {
  failed_is = sym (le-ltb before now (omega (arith, same)));
  bytes = read;
  came = at_end closing read old new is end;
  verdict = λ v p. p;
  whole = λ m p. refl;
  ended = λ f m p. end;
}

pub settled_fault : (closing : Option ℕ) (read : List ℕ) (old new : Option (List ℕ)) (before now : ℕ) → before < 2 ^ 64 - 1 → IsRead closing old new read → Rose before now → Settles closing read true old new before now
settled_fault closing read old new before now few is rose = record {
  failed_is = sym (lt-ltb before now (omega arith));
  bytes = read;
  came = is;
  verdict = λ v p. p;
  whole = λ m p. refl;
  ended = λ f m p. absurd cc;
}

pub settled_full : (closing : Option ℕ) (read : List ℕ) (old new : Option (List ℕ)) (before now : ℕ) → IsRead closing old new read → max_read ≤ length read → now ≡ before → Settles closing read false old new before now
settled_full closing read old new before now is le same =
    let f = when_full closing read old new is le in
    record {
      failed_is = sym (le-ltb before now (omega (arith, same)));
      bytes = f.0;
      came = f.1;
      verdict = f.2;
      whole = λ m p. absurd (no_module read le m p);
      ended = λ f m p. absurd (no_module read le m p);
    }

-- the bytes that came have an error, whatever follows, as far as bytes are read: reading goes no
-- further
pub settled_early : (closing : Option ℕ) (came : List ℕ) (r : Refusal) (old new : Option (List ℕ)) (before now : ℕ) → IsRead closing old new came → now ≡ before
    → ((more : List ℕ) → length (came ++ more) ≤ max_read → IsVerdictOf (came ++ more) (Rejected r)) → (read : List ℕ) × Settles closing read false old new before now × IsVerdictOf read (Rejected r)
settled_early closing came r old None before now is same v =
    let here = subst (λ (l : List ℕ). IsVerdictOf l (Rejected r)) (append-nil came) (v [] (omega (arith, is.few, ap length (append-nil came)))) in (
      came,
      record {
        failed_is = sym (le-ltb before now (omega (arith, same)));
        bytes = came;
        came = (came, [], is, tt, sym (append-nil came));
        verdict = λ w p. p;
        whole = λ m p. refl;
        ended = λ f m p. absurd (let other : Accepted m ≡ Rejected r = verdict_once came (Accepted m) (Rejected r) p here in cc);
      },
      here,
    )
settled_early closing came r old (Some rest) before now is same v =
    let n = max_read - length came in
    let read = came ++ take n rest in
    elim (cases_lt n (length rest)) [
      | inl over ↦
          let full : max_read ≤ length read = omega (arith, is.few, length-append came (take n rest), length-take n rest) in
          let whole : read ++ drop n rest ≡ came ++ rest = append_assoc came (take n rest) (drop n rest) ∙ ap (λ (x : List ℕ). came ++ x) (take-append-drop n rest) in (
            read,
            record {
              failed_is = sym (le-ltb before now (omega (arith, same)));
              bytes = came ++ rest;
              came = (came, rest, is, refl, refl);
              verdict = λ w p. subst (λ (x : List ℕ). IsVerdictOf x w) whole (verdict_stays read (drop n rest) full w p);
              whole = λ m p. absurd (no_module read full m p);
              ended = λ f m p. absurd (no_module read full m p);
            },
            v (take n rest) (omega (arith, is.few, length-append came (take n rest), length-take n rest)),
          )
      | inr fits ↦
          let all = v rest (omega (arith, is.few, length-append came rest)) in (
            came ++ rest,
            record {
              failed_is = sym (le-ltb before now (omega (arith, same)));
              bytes = came ++ rest;
              came = (came, rest, is, refl, refl);
              verdict = λ w p. p;
              whole = λ m p. refl;
              ended = λ f m p. absurd (let other : Accepted m ≡ Rejected r = verdict_once (came ++ rest) (Accepted m) (Rejected r) p all in cc);
            },
            all,
          )
    ]

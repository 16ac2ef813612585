use Rattle.std.proofs.Common.{◌≡◌, ℕ, zero, suc, ◌+◌, ◌-◌, Option, None, Some, List, [], ◌∷◌, ◌++◌, append_assoc, length-take, length, take, drop, rules, refl, sym, ap, ◌∙◌, arith}
use Rattle.body_cutter.specs.Sections.{Faulty}
use Rattle.wasm_defs.specs.declared.fault.Refusal.{Refusal}
use Rattle.body_cutter.specs.Cuttings.{Cutting, left, IsPrompt}
use Rattle.body_cutter.specs.Held.{queue_of}
use Rattle.body_cutter.proofs.Cuts.{handed_of, refused_left}
use Rattle.body_cutter.proofs.cutter.Cutter.feed.Goals as goal

pub returns-in-Some : goal.returns-in-Some
unfolding left
returns-in-Some c =
    let i = c.self.inside in
    record {
      same = λ more.
          ap (λ (k : Cutting). left k (c.args.bytes.now ++ more)) (sym c.self.view_is)
          ∙ refused_left i.walk (queue_of i.walk i.queue) c.in-Some.refusal (c.args.bytes.now ++ more) c.in-Some.is c.self.invariant.prompt
          ∙ ap (λ (k : Cutting). handed_of k.queue (Faulty c.in-Some.refusal)) c.self.view_is;
      stays = sym (ap (λ (k : Cutting). k.place.stop) c.self.view_is) ∙ c.in-Some.is;
      again = λ e. refl;
    }

differs : (o : Option Refusal) (r : Refusal) → o ≡ None → o ≡ Some r → ⊥
differs o r e f = absurd cc

-- the bytes that are taken, and the others
parted : (n : ℕ) (bytes : List ℕ) → take n bytes ++ drop (length (take n bytes)) bytes ≡ bytes
parted zero [] = refl
parted zero (b ∷ bytes) = refl
parted (suc n) [] = refl
parted (suc n) (b ∷ bytes) = ap (λ (l : List ℕ). b ∷ l) (parted n bytes)

split : (n : ℕ) (taken bytes more : List ℕ) → taken ≡ take n bytes → bytes ++ more ≡ taken ++ (drop (length taken) bytes ++ more)
split n taken bytes more e =
    let whole : taken ++ drop (length taken) bytes ≡ bytes = ap (λ (l : List ℕ). l ++ drop (length l) bytes) e ∙ parted n bytes in
    sym (ap (λ (l : List ℕ). l ++ more) whole) ∙ append_assoc taken (drop (length taken) bytes) more

pub returns-in-Some-stop : goal.returns-in-Some-stop
unfolding left
returns-in-Some-stop c =
    let i = c.self-2.inside in
    let old = c.args.self.now in
    let new = c.take_in.new.self in
    let taken = c.first_of-taken.result.now in
    let bytes = c.args.bytes.now in
    let r = c.in-Some-stop.refusal in
    let ok : (more : List ℕ) → left old (taken ++ more) ≡ left new more = search rules in
    let none : old.place.stop ≡ None = search rules in
    record {
      same = λ more.
          let rest : List ℕ = drop (length taken) bytes ++ more in
          ap (left old) (split (c.self.inside.walk.end - c.self.inside.walk.at) taken bytes more c.first_of-taken.ensures)
          ∙ ok rest
          ∙ ap (λ (k : Cutting). left k rest) (sym c.self-2.view_is)
          ∙ refused_left i.walk (queue_of i.walk i.queue) r rest c.in-Some-stop.is c.self-2.invariant.prompt
          ∙ ap (λ (k : Cutting). handed_of k.queue (Faulty r)) c.self-2.view_is;
      stays = sym (ap (λ (k : Cutting). k.place.stop) c.self-2.view_is) ∙ c.in-Some-stop.is;
      again = λ e. absurd (differs old.place.stop r none e);
    }

pub returns : goal.returns
returns c =
    let old = c.args.self.now in
    let new = c.take_in.new.self in
    let taken = c.first_of-taken.result.now in
    let bytes = c.args.bytes.now in
    let room : ℕ = c.self.inside.walk.end - c.self.inside.walk.at in
    let ok : (more : List ℕ) → left old (taken ++ more) ≡ left new more = search rules in
    let place : (new.place.stop ≡ None → new.place.at ≡ old.place.at + length taken) × (new.place.end ≡ old.place.end) = search rules in
    let prompt : IsPrompt new = search rules in
    let stop : c.self-2.inside.walk.stop ≡ None = search rules in
    let going : new.place.stop ≡ None = sym (ap (λ (k : Cutting). k.place.stop) c.self-2.view_is) ∙ stop in
    record {
      all = omega (arith, ap length c.first_of-taken.ensures, length-take room bytes, ap (λ (k : Cutting). k.place.end - k.place.at) c.self.view_is);
      same = λ more. ap (left old) (split room taken bytes more c.first_of-taken.ensures) ∙ ok (drop (length taken) bytes ++ more);
      place = (place.0 going, place.1);
      going = going;
      prompt = prompt;
    }

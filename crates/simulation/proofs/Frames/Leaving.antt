-- The end of a function: its results go to its caller's operands, or to the first slots where it was called from outside.
use Rattle.std.proofs.Common.{◌≡◌, ℕ, ◌+◌, ◌*◌, ◌%◌, ◌^◌, ◌<◌, ◌≤◌, ◌==◌, false, inl, List, [], ◌∷◌, ◌++◌, length, reverse, Option, Some, refl, sym, ap, ◌∙◌, subst, append_assoc, arith, suc, zero}
use Rattle.std.proofs.lemmas.Bool.{eq-eqb, false≢true}
use Rattle.std.proofs.lemmas.List.{length-append, length-reverse, reverse-reverse}
use Rattle.std.proofs.lemmas.Option.{slice_get_within}
use Rattle.rv_isa.specs.declared.operations.Op.{Op}
use Rattle.rv_isa.specs.Steps.{State, Bytes, reg, region_base, exec}
use Rattle.rv_isa.specs.declared.stepping.Region.TheVariants.{Stack}
use Rattle.rv_isa.specs.Runs.{place, HasAt, Reaches, FitWindows}
use Rattle.rv_isa.proofs.RunLaws.{Reaches-then}
use Rattle.wasm_defs.specs.Typing.{Types}
use Rattle.wasm_defs.specs.Values.{Value, types_of_values}
use Rattle.wasm_defs.specs.Configurations.{Instance, Store, Invocation, Frame, Func, belows, whole, part, used, max_slots}
use Rattle.wasm_defs.specs.Reductions.{finish, hand_out}
use Rattle.frame_layout.specs.declared.layout.Layout.{Layout}
use Rattle.frame_layout.specs.Macros.{x0, ra, s0, s5}
use Rattle.frame_layout.specs.Slots.{operand, need}
use Rattle.frame_layout.specs.Templates.{prologue, epilogue, exit_stub, result_words}
use Rattle.frame_layout.specs.Functions.{label, body_size, body_code}
use Rattle.frame_layout.specs.Laws.{slot_at, is_scratch, Leaves}
use Rattle.rv_isa.specs.declared.operations.Op.TheVariants.{Jalr}
use Rattle.frame_layout.proofs.Jumps.{returned_reaches}
use Rattle.frame_layout.proofs.Endings.{epilogue_does, exit_does, results_count}
use Rattle.frame_layout.proofs.Standing.{has_rest}
use Rattle.simulation.proofs.Frames.Frames.{under, TextPlaces, Compiled, own, SitsAt, Stays, Returns, CallersStay}
use Rattle.simulation.proofs.Frames.Follows.{agree_less, same_beside, stays_kept, callers_kept, Leads, Reached, Over, Follows}
use Rattle.simulation.proofs.Frames.Jumps.{Moved, back_moves}
use Rattle.simulation.proofs.Frames.Heights.{peak_here}
use Rattle.simulation.proofs.Frames.Rules.{types_length, types_append}
use Rattle.simulation.proofs.Frames.Reversed.{types_reverse, operands_in_order}
use Rattle.simulation.proofs.Frames.Sitting.{has_at}
use Rattle.frame_layout.proofs.Sizes.{code_size}
use Rattle.simulation.proofs.Frames.Values.{holds_as, Operands, Locals, Agree, SameBeside, Matches}
use Rattle.simulation.proofs.Frames.Results.{ResultsMoved, results_moved, operands_small, operands_moved}

-- operands that are on others
pub operands_joined : (b : Bytes) (first : ℕ) (vs ws : List Value) → Operands b (first + length ws) vs → Operands b first ws → Operands b first (vs ++ ws)
operands_joined b first [] ws h k = k
operands_joined b first (v ∷ vs) ws h k =
    let e : first + length (vs ++ ws) ≡ first + length ws + length vs = omega (arith, length-append vs ws) in
    (holds_as (slot_at b (first + length (vs ++ ws))) (ap (slot_at b) e) h.0, operands_joined b first vs ws h.1 k)

pub operands_below : (b : Bytes) (first : ℕ) (vs ws : List Value) → Operands b first (vs ++ ws) → Operands b first ws
operands_below b first [] ws h = h
operands_below b first (v ∷ vs) ws h = operands_below b first vs ws h.1

-- the results of a function that returned are where its frame began
pub record Left (code : List (Option Op)) (base there : ℕ) (vs : List Value) (s : State) : Type 0 where
  pub steps : ℕ
  pub short : steps ≤ 4 + 6 * length vs
  pub some : 0 < steps
  pub end : State
  pub reaches : Reaches code steps s end
  pub pc_is : end.pc ≡ there
  pub low : Agree base s.bytes end.bytes
  pub results : Operands end.bytes base vs
  pub beside : SameBeside s.bytes end.bytes
  pub size : length end.bytes.stack ≡ 8 * max_slots
  pub windows : FitWindows end.bytes
  pub others : (r : ℕ) → is_scratch r ≡ false → (r == ra) ≡ false → reg end.registers r ≡ reg s.registers r

left_with : (code : List (Option Op)) (l : Layout) (base there : ℕ) (locals vs : List Value) (b : Bytes) (s : State) → length vs ≤ l.greatest → Matches l base there b locals vs s → Leaves code l (length vs) base there s → Left code base there vs s
left_with code l base there locals vs b s high m x =
    let room = m.room in
    let n = length vs in
    let at_operand : (k : ℕ) → base + operand l k ≡ base + operand l 0 + k = λ k. omega arith in
    let moved : ResultsMoved l base n 0 s.bytes x.end.bytes =
    subst (ResultsMoved l base n 0 s.bytes) (sym x.bytes_are) (results_moved l base n 0 s.bytes m.frame.size m.frame.windows (omega arith)
    (λ k low less. subst (λ (j : ℕ). slot_at s.bytes j < 2 ^ 64) (sym (at_operand k)) (operands_small s.bytes (base + operand l 0) vs m.live k (omega arith)))) in
    record {
      steps = length (epilogue l n);
      short = omega (arith, results_count l n 0, length-append (result_words l n 0) (Jalr x0 ra 0 ∷ []));
      some = omega arith;
      end = x.end;
      reaches = x.reaches;
      pc_is = x.pc_is;
      low = record { by = λ k less. moved.others k (inl (omega arith)) };
      results = operands_moved s.bytes x.end.bytes (base + operand l 0) base vs (λ k less. moved.moved k (omega arith) (omega arith) ∙ ap (slot_at s.bytes) (at_operand k)) m.live;
      beside = moved.beside;
      size = moved.size ∙ m.frame.size;
      windows = moved.windows;
      others = x.others;
    }

-- results that are where the frame begins, before the word that returns
pub left_at : (code : List (Option Op)) (i base there : ℕ) (vs : List Value) (s : State) → HasAt code i (Jalr x0 ra 0 ∷ []) → s.pc ≡ place i → reg s.registers ra ≡ there → there < 2 ^ 62 → there % 4 ≡ 0
    → length s.bytes.stack ≡ 8 * max_slots → FitWindows s.bytes → Operands s.bytes base vs → Left code base there vs s
left_at code i base there vs s has at is small aligned size windows results = record {
  steps = 1;
  short = omega arith;
  some = omega arith;
  end = record s { pc = there };
  reaches = returned_reaches code s i at there has is (omega arith) aligned;
  pc_is = refl;
  low = record { by = λ k less. refl };
  results = results;
  beside = same_beside s.bytes s.bytes refl;
  size = size;
  windows = windows;
  others = λ r a b. refl;
}

module _ (text : List (Option Op)) (near : length text ≤ 2 ^ 26) (inst : Instance) (places : TextPlaces) (outer : Types) (stub : HasAt text 0 exit_stub) where
  -- the words after a body
  pub has_epilogue : {f : Func} (k : Compiled text inst places f) → HasAt text (k.begin + (own text inst places k).place) (epilogue k.around.layout (length k.context.results))
  has_epilogue {f} k =
      let w = k.around in
      let n = length k.context.results in
      let body = body_code w k.context f.body in
      let end = epilogue w.layout n in
      let count : length body ≡ body_size w k.context f.body =
      code_size w w.distance_to (record k.context { labels = k.context.results ∷ k.context.labels }) (label 0 n (length (prologue w.layout) + body_size w k.context f.body) ∷ []) (label 0 n 0 ∷ []) refl f.body (Some 0) (length (prologue w.layout)) in
      has_at text (k.begin + length (prologue w.layout) + length body) (k.begin + (length (prologue w.layout) + body_size w k.context f.body)) end (omega arith)
      (has_rest text (k.begin + length (prologue w.layout)) body end (has_rest text k.begin (prologue w.layout) (body ++ end) k.has))

  pub own_near : {f : Func} (k : Compiled text inst places f) → k.begin + (own text inst places k).place ≤ length text
  own_near {f} k =
      let w = k.around in
      let n = length k.context.results in
      let body = body_code w k.context f.body in
      let end = epilogue w.layout n in
      let count : length body ≡ body_size w k.context f.body =
      code_size w w.distance_to (record k.context { labels = k.context.results ∷ k.context.labels }) (label 0 n (length (prologue w.layout) + body_size w k.context f.body) ∷ []) (label 0 n 0 ∷ []) refl f.body (Some 0) (length (prologue w.layout)) in
      omega (arith, k.inside, length-append (prologue w.layout) (body ++ end), length-append body end)

  -- addresses of returns are addresses of words
  pub address_fits : (b : Bytes) (address : ℕ) (awaited : Types) (callers : List Frame) → CallersStay text inst places outer b address awaited callers → (address < 2 ^ 62) × (address % 4 ≡ 0)
  address_fits b address awaited [] x = (omega (arith, x.0), omega (arith, x.0))
  address_fits b address awaited (f ∷ fs) x =
      let r = x.1 in
      let is = r.is in
      let within = slice_get_within text r.at _ r.gives_back.0 in
      (omega arith, omega arith)

  module _ (store : Store) (later : List Invocation) (size : ℕ) where
    module _ (base address : ℕ) (vs : List Value) (s : State) (x : Left text base address vs s) (most : ℕ) (short : x.steps + 6 ≤ most) (owed : ℕ) (first : reg s.registers s0 ≡ region_base Stack + 8 * base) (last : reg s.registers s5 ≡ region_base Stack + 8 * max_slots) where
      -- to the outside
      over : base ≡ 0 → CallersStay text inst places outer s.bytes address (types_of_values vs) [] → Over text inst places outer store later most s (reverse vs)
      over none stay =
          let asks = exit_does text x.end 0 stub (omega (arith, x.pc_is, stay.0)) in
          record {
            steps = x.steps + 2;
            short = omega (arith, short);
            end = asks.end;
            by = λ n.
                let regroup : x.steps + 2 + n ≡ x.steps + (2 + n) = omega arith in
                ap (λ (k : ℕ). exec text k s) regroup ∙ x.reaches.by (2 + n) ∙ asks.by n;
            number_is = asks.number_is;
            beside = subst (SameBeside s.bytes) (sym asks.bytes_are) x.beside;
            results = subst (λ (b : Bytes). Locals b 0 (reverse vs)) (sym asks.bytes_are) (subst (λ (n : ℕ). Locals x.end.bytes n (reverse vs)) none (operands_in_order x.end.bytes base vs x.results));
            types_are = types_reverse vs ∙ ap reverse stay.1 ∙ reverse-reverse outer;
            size = ap (λ (b : Bytes). length b.stack) asks.bytes_are ∙ x.size;
            windows = subst FitWindows (sym asks.bytes_are) x.windows;
          }

      by_later : base ≡ 0 → CallersStay text inst places outer s.bytes address (types_of_values vs) [] → (owed : ℕ) (more : List Invocation) → later ≡ more → Follows text inst places outer store later most size s (hand_out store owed vs more)
      by_later none stay zero [] e = (refl, e, over none stay)
      by_later none stay zero (i ∷ more) e = (refl, e, reverse vs, over none stay)
      by_later none stay (suc n) more e = (refl, e, over none stay)

      -- to a caller
      module _ (f : Frame) (fs : List Frame) (based : base ≡ used (f ∷ fs)) (stay : CallersStay text inst places outer s.bytes address (types_of_values vs) (f ∷ fs)) where
        abbrev r : Returns text inst places outer s.bytes (used fs) (types_of_values vs) address stay.0 f
        r = stay.1

        abbrev caller : Frame
        caller = record f { operands = vs ++ f.operands }

        small : (part f < 2 ^ 24) × (used fs + part f ≤ max_slots)
        small =
            let room = r.stays.room in
            let width = r.stays.width in
            let low = r.stays.sits.low in
            let peak = peak_here (under r.stays.compiled.context r.stays.os) f.code (length (types_of_values vs ++ types_of_values f.operands) + length (belows f.labels)) in
            let lengths : part f ≤ need r.stays.compiled.around.layout = omega (arith, length-append f.operands (belows f.labels), length-append (types_of_values vs) (types_of_values f.operands), types_length f.operands) in
            (omega arith, omega arith)

        moved : Moved text 6 x.end (region_base Stack + 8 * used fs)
        moved = back_moves text x.end r.at (part f) (x.pc_is ∙ r.is) small.0 (used fs) r.gives_back (x.others s0 refl refl ∙ first ∙ ap (λ (n : ℕ). region_base Stack + 8 * n) based) small.1

        agree : Agree (used fs + part f) s.bytes moved.end.bytes
        agree = subst (Agree (used fs + part f) s.bytes) (sym moved.bytes_are) (agree_less (used fs + part f) (omega arith) x.low)

        running : Stays text inst places moved.end.bytes (used fs) r.here [] stay.0 caller
        running =
            let old = stays_kept text inst places s.bytes moved.end.bytes (used fs) r.here (types_of_values vs) stay.0 f agree r.stays in
            let l = r.stays.compiled.around.layout in
            let width = r.stays.width in
            let top : base ≡ used fs + operand l 0 + length (whole f) = omega arith in
            let on_top : Operands moved.end.bytes (used fs + operand l 0 + length (whole f)) vs =
            subst (λ (c : Bytes). Operands c (used fs + operand l 0 + length (whole f)) vs) (sym moved.bytes_are) (subst (λ (n : ℕ). Operands x.end.bytes n vs) top x.results) in
            record {
              compiled = r.stays.compiled;
              os = r.stays.os;
              to = r.stays.to;
              there = r.stays.there;
              room = r.stays.room;
              width = r.stays.width;
              are = r.stays.are;
              values = old.values;
              live = subst (Operands moved.end.bytes (used fs + operand l 0)) (sym (append_assoc vs f.operands (belows f.labels))) (operands_joined moved.end.bytes (used fs + operand l 0) vs (whole f) on_top old.live);
              link_is = old.link_is;
              sits = subst (λ (ts : Types). SitsAt text inst places r.stays.compiled r.stays.os (Some (length ts + length (belows f.labels))) ts r.here f.code r.stays.to r.stays.there) (sym (types_append vs f.operands)) r.stays.sits;
              fit = r.stays.fit;
            }

        goes_on : Leads text inst places outer most s caller fs
        unfolding running
        goes_on =
            let pc_is = moved.pc_is in
            let there = x.pc_is in
            let address_is = r.is in
            let behind = r.goes_on in
            record {
              steps = x.steps + 6;
              short = short;
              end = moved.end;
              reaches = Reaches-then x.reaches moved.reaches;
              stay = record {
                frame = record {
                  first = moved.first_is;
                  end = moved.others s5 refl (λ e. absurd cc) ∙ x.others s5 refl refl ∙ last;
                  size = ap (λ (c : Bytes). length c.stack) moved.bytes_are ∙ x.size;
                  windows = subst FitWindows (sym moved.bytes_are) x.windows;
                };
                here = r.here;
                address = stay.0;
                running = running;
                at = omega arith;
                callers_stay = callers_kept text inst places outer s.bytes moved.end.bytes stay.0 (reverse f.function.ty.results) fs (agree_less (used fs) (omega arith) agree) stay.2;
              };
              beside = subst (SameBeside s.bytes) (sym moved.bytes_are) x.beside;
              registers = record { by = λ q a b c. moved.others q a (λ e. false≢true (sym c ∙ eq-eqb q s0 e)) ∙ x.others q a b };
            }

        reached : Reached text inst places outer store later most size s (record { store = store; frame = caller; callers = fs; owed = owed; later = later })
        unfolding goes_on
        reached = record {
          same_store = refl;
          same_later = refl;
          leads = goes_on;
          moves = inl (omega (arith, x.some));
        }

    -- where the frame was, the results are: the caller goes on, or the run is over
    pub resumes : (base address : ℕ) (vs : List Value) (callers : List Frame) (s : State) → (x : Left text base address vs s) → (most : ℕ) → x.steps + 6 ≤ most → (owed : ℕ) → base ≡ used callers
        → reg s.registers s0 ≡ region_base Stack + 8 * base → reg s.registers s5 ≡ region_base Stack + 8 * max_slots
        → CallersStay text inst places outer s.bytes address (types_of_values vs) callers → Follows text inst places outer store later most size s (finish store owed vs callers later)
    resumes base address vs [] s x most short owed based first last stay = by_later base address vs s x most short owed first last based stay owed later refl
    resumes base address vs (f ∷ fs) s x most short owed based first last stay = reached base address vs s x most short owed first last f fs based stay

    -- at the function's own label
    pub leaves_follow : (f : Frame) (callers : List Frame) (k : Compiled text inst places f.function) (address : ℕ) (b : Bytes) (vs locals : List Value) (s : State) → Matches k.around.layout (used callers) address b locals vs s
        → s.pc ≡ place (k.begin + (own text inst places k).place) → types_of_values vs ≡ reverse f.function.ty.results → length vs ≤ k.around.layout.greatest
        → CallersStay text inst places outer s.bytes address (reverse f.function.ty.results) callers → (owed : ℕ)
        → Follows text inst places outer store later (10 + 6 * length f.function.ty.results) size s (finish store owed vs callers later)
    leaves_follow f callers k address b vs locals s m at are high stay owed =
        let count : length k.context.results ≡ length vs = ap length (k.results_are ∙ sym are) ∙ types_length vs in
        let same : length f.function.ty.results ≡ length vs = omega (arith, count, ap length k.results_are, length-reverse f.function.ty.results) in
        let fits = address_fits s.bytes address (reverse f.function.ty.results) callers stay in
        let has = subst (λ (n : ℕ). HasAt text (k.begin + (own text inst places k).place) (epilogue k.around.layout n)) count (has_epilogue k) in
        let leaves = epilogue_does text s (k.begin + (own text inst places k).place) (used callers) (length vs) address k.around.layout has at m.frame m.room high m.link_is (omega (arith, fits.0)) fits.1 in
        let left = left_with text k.around.layout (used callers) address locals vs b s high m leaves in
        resumes (used callers) address vs callers s left (10 + 6 * length f.function.ty.results) (omega (arith, left.short)) owed refl m.frame.first m.frame.end
        (subst (λ (ts : Types). CallersStay text inst places outer s.bytes address ts callers) (sym are) stay)

use Rattle.std.proofs.Common.{refl, subst, ◌∙◌, ◌≤◌, length, Option, Err}
use Rattle.std.specs.Prelude.{IfSome}
use Rattle.wasm_defs.specs.declared.item.Item.{Item}
use Rattle.wasm_defs.specs.declared.front_stop.FrontStop.{FrontStop}
use Rattle.section_reader.specs.Stepped.{Reached, Reaches}
use Rattle.section_reader.proofs.Reaching.{item_fed, all_fed, refused_there, restored, left_same, sound_at, owed_of, owed_at}
use Rattle.section_reader.proofs.Awaiting.{free_at, placed_at}
use Rattle.section_reader.proofs.Near.{take_near}
use Rattle.section_reader.proofs.FrontTelling.{stalled_of, stalled_at, item_told, refused_told}
use Rattle.section_reader.proofs.front.Front.take.Goals as goal

pub until_item-requires : goal.until_item-requires
until_item-requires c = record {
  sound = sound_at _ _ _ _ _ c.in-Some.ensures.there c.args.self.now.counts c.in-Some.ensures.fits;
  before = rw c.in-Some.ensures.there (take_near c.args.self.now c.args.bytes.now c.args.all.now c.requires.joined);
}

pub returns-in-Ok-Some-clause-fed : goal.returns-in-Ok-Some-clause-fed
returns-in-Ok-Some-clause-fed c =
    let o = c.args.self.now in
    let reached = rw c.in-Some.ensures.there at (subst (λ (x : Option Item). Reached o.steps c.in-Some.fields x c.until_item.new.self c.until_item.new.fields) c.in-Ok-Some.field-0-is c.in-Ok-Some.ensures.reaches) in
    let near = subst (λ (x : Option Item). IfSome x (λ i. length c.until_item.new.fields.rest ≤ length c.args.bytes.now)) c.in-Ok-Some.field-0-is c.in-Ok-Some.ensures.near in
    item_fed o c.args.bytes.now c.args.all.now c.requires.waiting c.requires.refusal c.requires.joined _ c.in-Ok-Some.item c.until_item.new.fields c.rest-untaken.result.now c.rest-untaken.ensures reached near c.offset-self.ensures c.end-self.ensures.value c.new.ensures.items refl c.requires.refusal

pub returns-in-Err-clause-fed : goal.returns-in-Err-clause-fed
returns-in-Err-clause-fed c =
    let o = c.args.self.now in
    let reached = subst (λ (x : Option Item). Reached o.steps c.in-Some.fields x c.until_item.new.self c.until_item.new.fields) c.in-Ok-None.field-0-is c.in-Ok-None.ensures.reaches in
    λ more. left_same o c.return_to.new.self (restored o.steps c.until_item.new.self c.return_to.new.self c.mark-mark.result c.mark-mark.ensures (reached.same refl) c.return_to.ensures) more

pub returns-in-Ok-clause-fed : goal.returns-in-Ok-clause-fed
returns-in-Ok-clause-fed c =
    let o = c.args.self.now in
    let reached = rw c.in-Some.ensures.there at (subst (λ (x : Option Item). Reached o.steps c.in-Some.fields x c.until_item.new.self c.until_item.new.fields) c.in-Ok-None.field-0-is c.in-Ok-None.ensures.reaches) in
    all_fed o c.args.bytes.now c.args.all.now c.requires.waiting c.requires.refusal c.requires.joined _ c.until_item.new.fields reached c.offset-self-in-Ok.ensures c.end-self-in-Ok.ensures.value (c.in-Ok.ensures.items ∙ c.rest.ensures) c.requires.waiting c.requires.refusal

pub invariant_of-self-in-Ok-clause-owed : goal.invariant_of-self-in-Ok-clause-owed
invariant_of-self-in-Ok-clause-owed c =
    let o = c.args.self.now in
    let reached = subst (λ (x : Option Item). Reached o.steps c.in-Some.fields x c.until_item.new.self c.until_item.new.fields) c.in-Ok-None.field-0-is c.in-Ok-None.ensures.reaches in
    let n = c.until_item.new.self in
    owed_at n.stage n.seen c.until_item.new.fields _ _ _ c.offset-self-in-Ok.ensures c.end-self-in-Ok.ensures.value (c.in-Ok.ensures.items ∙ c.rest.ensures) (owed_of o.steps n c.in-Some.fields c.until_item.new.fields reached)

pub returns-in-Err-Refused-clause-fed : goal.returns-in-Err-Refused-clause-fed
returns-in-Err-Refused-clause-fed c =
    let o = c.args.self.now in
    let reaches = subst (λ (x : FrontStop). Reaches o.steps c.in-Some.fields (Err x) c.until_item.new.self c.until_item.new.fields) c.in-Err-Refused.field-0-is c.in-Err-Refused.ensures.reaches in
    rw c.in-Err-Refused.refusal-is (refused_there o c.args.bytes.now c.args.all.now c.requires.waiting c.requires.refusal c.requires.joined _ c.in-Err-Refused.refusal (rw c.in-Some.ensures.there at reaches.0) c.requires.waiting refl)

pub returns-in-Err-NoMemory-clause-fed : goal.returns-in-Err-NoMemory-clause-fed
returns-in-Err-NoMemory-clause-fed c =
    let o = c.args.self.now in
    let same = subst (λ (x : FrontStop). Reaches o.steps c.in-Some.fields (Err x) c.until_item.new.self c.until_item.new.fields) c.in-Err-NoMemory.field-0-is c.in-Err-NoMemory.ensures.reaches in
    λ more. left_same o c.return_to-in-Err-NoMemory.new.self (restored o.steps c.until_item.new.self c.return_to-in-Err-NoMemory.new.self c.mark-mark.result c.mark-mark.ensures same c.return_to-in-Err-NoMemory.ensures) more

pub invariant_of-self-in-Ok-clause-unread : goal.invariant_of-self-in-Ok-clause-unread
invariant_of-self-in-Ok-clause-unread c =
    let n = c.until_item.new.self in
    λ some. free_at n.stage n.seen c.until_item.new.fields _ _ _ _ c.offset-self-in-Ok.ensures c.end-self-in-Ok.ensures.value (c.in-Ok.ensures.items ∙ c.rest.ensures) c.wait-self.ensures.free

pub invariant_of-self-in-Ok-clause-placed : goal.invariant_of-self-in-Ok-clause-placed
invariant_of-self-in-Ok-clause-placed c =
    placed_at c.until_item.new.fields _ _ _ _ c.offset-self-in-Ok.ensures c.end-self-in-Ok.ensures.value (c.in-Ok.ensures.items ∙ c.rest.ensures) c.wait-self.ensures.placed

pub invariant_of-self-in-Ok-clause-stalled : goal.invariant_of-self-in-Ok-clause-stalled
invariant_of-self-in-Ok-clause-stalled c =
    let o = c.args.self.now in
    let reached = subst (λ (x : Option Item). Reached o.steps c.in-Some.fields x c.until_item.new.self c.until_item.new.fields) c.in-Ok-None.field-0-is c.in-Ok-None.ensures.reaches in
    let n = c.until_item.new.self in
    stalled_at n.stage n.seen c.until_item.new.fields _ _ _ c.offset-self-in-Ok.ensures c.end-self-in-Ok.ensures.value (c.in-Ok.ensures.items ∙ c.rest.ensures) (stalled_of o.steps n c.in-Some.fields c.until_item.new.fields o.ordered reached)

pub returns-in-Ok-Some-clause-onward : goal.returns-in-Ok-Some-clause-onward
returns-in-Ok-Some-clause-onward c =
    let o = c.args.self.now in
    let reached = rw c.in-Some.ensures.there at (subst (λ (x : Option Item). Reached o.steps c.in-Some.fields x c.until_item.new.self c.until_item.new.fields) c.in-Ok-Some.field-0-is c.in-Ok-Some.ensures.reaches) in
    let near = subst (λ (x : Option Item). IfSome x (λ i. length c.until_item.new.fields.rest ≤ length c.args.bytes.now)) c.in-Ok-Some.field-0-is c.in-Ok-Some.ensures.near in
    item_told o c.args.bytes.now c.args.all.now c.requires.waiting c.requires.refusal c.requires.joined _ c.in-Ok-Some.item c.until_item.new.fields c.rest-untaken.result.now c.rest-untaken.ensures reached near c.offset-self.ensures c.end-self.ensures.value c.new.ensures.items refl c.requires.refusal

pub returns-in-Err-Refused-clause-onward : goal.returns-in-Err-Refused-clause-onward
returns-in-Err-Refused-clause-onward c =
    let o = c.args.self.now in
    let reaches = subst (λ (x : FrontStop). Reaches o.steps c.in-Some.fields (Err x) c.until_item.new.self c.until_item.new.fields) c.in-Err-Refused.field-0-is c.in-Err-Refused.ensures.reaches in
    λ apart.
    rw c.in-Err-Refused.refusal-is (refused_told o c.args.bytes.now c.args.all.now c.requires.waiting c.requires.refusal c.requires.joined _ c.in-Err-Refused.refusal apart (rw c.in-Some.ensures.there at reaches.2) c.requires.waiting refl)

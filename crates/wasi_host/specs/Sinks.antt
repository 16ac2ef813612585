-- What a call does to the host's sink.
use Rattle.std.specs.Prelude.{◌≡◌, ℕ, Bool, true, false, List, Option, None, Some}
use Rattle.wasm_defs.specs.Host.{Reply, Stop}
use Rattle.io_edges.specs.Streams.{WritesText}
use Rattle.image_run.specs.declared.host.Reply.{Reply as GivenReply}
use Rattle.image_run.specs.Hosts.{reply_of}
use Rattle.wasi_host.specs.Answers.{Answered}

-- the bytes were written and this is the reply; or there is none, since the sink failed
abbrev pub Gives : Option GivenReply → Answered → (written written_now : Option (List ℕ)) → (faults faults_now : ℕ) → Type 0
Gives (Some r) a written written_now faults faults_now = (reply_of r ≡ a.reply) × WritesText true a.bytes written written_now faults faults_now
Gives None a written written_now faults faults_now = WritesText false a.bytes written written_now faults faults_now

-- A call is answered, or the sink failed while its bytes were written and the reply is Stop. After that nothing is written, and
-- each reply is Stop. By whether the sink is open before the call and after it.
abbrev pub Answers : (is_open open_now : Bool) → Answered → Reply → (written written_now : Option (List ℕ)) → (faults faults_now : ℕ) → Type 0
Answers true true a reply written written_now faults faults_now = (reply ≡ a.reply) × WritesText true a.bytes written written_now faults faults_now
Answers true false a reply written written_now faults faults_now = (reply ≡ Stop) × WritesText false a.bytes written written_now faults faults_now
Answers false true a reply written written_now faults faults_now = ⊥
Answers false false a reply written written_now faults faults_now = (reply ≡ Stop) × (written_now ≡ written) × (faults_now ≡ faults)

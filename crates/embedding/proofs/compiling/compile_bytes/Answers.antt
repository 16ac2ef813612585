use Rattle.embedding.proofs.Sources.{refused_done}
use Rattle.embedding.proofs.compiling.compile_bytes.Goals as goal

pub returns-in-Refused : goal.returns-in-Refused
returns-in-Refused g c =
    let answer = rw c.new-source.ensures at c.in-Refused.ensures.answer in
    refused_done _ c.args.bytes.now _ c.in-Refused.refusal answer

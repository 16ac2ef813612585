use Rattle.body_compiler.proofs.Opcodes.{else_read, end_read, br_if_read, local_get_read, local_set_read, local_tee_read, global_get_read, global_set_read, i32_const_read, i64_const_read}
use Rattle.body_compiler.proofs.token_loop.take_instruction.Goals as goal

pub returns-in-5-clause-goes : goal.returns-in-5-clause-goes
returns-in-5-clause-goes g c =
    λ c' code before front k h. c.take_closing.ensures.goes c.args.reading.counted c' c.args.reading.last c.args.opcode code before c.args.fields.now c.args.fields.now front k h (else_read c.args.reading.counted c.args.at c.args.opcode c.args.fields.now c.in-5.is)

pub returns-in-11-clause-goes : goal.returns-in-11-clause-goes
returns-in-11-clause-goes g c =
    λ c' code before front k h. c.take_closing-in-11.ensures.goes c.args.reading.counted c' c.args.reading.last c.args.opcode code before c.args.fields.now c.args.fields.now front k h (end_read c.args.reading.counted c.args.at c.args.opcode c.args.fields.now c.in-11.is)

pub take_indexed-requires-clause-reads : goal.take_indexed-requires-clause-reads
take_indexed-requires-clause-reads g c =
    (c.args.reading.counted, c.args.opcode, br_if_read c.args.reading.counted c.args.at c.args.opcode c.args.fields.now c.in-13.is)

pub returns-in-13-clause-goes : goal.returns-in-13-clause-goes
returns-in-13-clause-goes g c =
    λ c' code before front k h. c.take_indexed.ensures.goes c.args.reading.counted c' c.args.opcode code before front k h (br_if_read c.args.reading.counted c.args.at c.args.opcode c.args.fields.now c.in-13.is)

pub take_indexed-requires-in-32-clause-reads : goal.take_indexed-requires-in-32-clause-reads
take_indexed-requires-in-32-clause-reads g c =
    (c.args.reading.counted, c.args.opcode, local_get_read c.args.reading.counted c.args.at c.args.opcode c.args.fields.now c.in-32.is)

pub returns-in-32-clause-goes : goal.returns-in-32-clause-goes
returns-in-32-clause-goes g c =
    λ c' code before front k h. c.take_indexed-in-32.ensures.goes c.args.reading.counted c' c.args.opcode code before front k h (local_get_read c.args.reading.counted c.args.at c.args.opcode c.args.fields.now c.in-32.is)

pub take_indexed-requires-in-33-clause-reads : goal.take_indexed-requires-in-33-clause-reads
take_indexed-requires-in-33-clause-reads g c =
    (c.args.reading.counted, c.args.opcode, local_set_read c.args.reading.counted c.args.at c.args.opcode c.args.fields.now c.in-33.is)

pub returns-in-33-clause-goes : goal.returns-in-33-clause-goes
returns-in-33-clause-goes g c =
    λ c' code before front k h. c.take_indexed-in-33.ensures.goes c.args.reading.counted c' c.args.opcode code before front k h (local_set_read c.args.reading.counted c.args.at c.args.opcode c.args.fields.now c.in-33.is)

pub take_indexed-requires-in-34-clause-reads : goal.take_indexed-requires-in-34-clause-reads
take_indexed-requires-in-34-clause-reads g c =
    (c.args.reading.counted, c.args.opcode, local_tee_read c.args.reading.counted c.args.at c.args.opcode c.args.fields.now c.in-34.is)

pub returns-in-34-clause-goes : goal.returns-in-34-clause-goes
returns-in-34-clause-goes g c =
    λ c' code before front k h. c.take_indexed-in-34.ensures.goes c.args.reading.counted c' c.args.opcode code before front k h (local_tee_read c.args.reading.counted c.args.at c.args.opcode c.args.fields.now c.in-34.is)

pub take_indexed-requires-in-35-clause-reads : goal.take_indexed-requires-in-35-clause-reads
take_indexed-requires-in-35-clause-reads g c =
    (c.args.reading.counted, c.args.opcode, global_get_read c.args.reading.counted c.args.at c.args.opcode c.args.fields.now c.in-35.is)

pub returns-in-35-clause-goes : goal.returns-in-35-clause-goes
returns-in-35-clause-goes g c =
    λ c' code before front k h. c.take_indexed-in-35.ensures.goes c.args.reading.counted c' c.args.opcode code before front k h (global_get_read c.args.reading.counted c.args.at c.args.opcode c.args.fields.now c.in-35.is)

pub take_indexed-requires-in-36-clause-reads : goal.take_indexed-requires-in-36-clause-reads
take_indexed-requires-in-36-clause-reads g c =
    (c.args.reading.counted, c.args.opcode, global_set_read c.args.reading.counted c.args.at c.args.opcode c.args.fields.now c.in-36.is)

pub returns-in-36-clause-goes : goal.returns-in-36-clause-goes
returns-in-36-clause-goes g c =
    λ c' code before front k h. c.take_indexed-in-36.ensures.goes c.args.reading.counted c' c.args.opcode code before front k h (global_set_read c.args.reading.counted c.args.at c.args.opcode c.args.fields.now c.in-36.is)

pub take_constant-requires-clause-reads : goal.take_constant-requires-clause-reads
take_constant-requires-clause-reads g c =
    (c.args.reading.counted, c.args.opcode, i32_const_read c.args.reading.counted c.args.at c.args.opcode c.args.fields.now c.in-65.is)

pub returns-in-65-clause-goes : goal.returns-in-65-clause-goes
returns-in-65-clause-goes g c =
    λ c' code before front k h. c.take_constant.ensures.goes c.args.reading.counted c' c.args.opcode code before front k h (i32_const_read c.args.reading.counted c.args.at c.args.opcode c.args.fields.now c.in-65.is)

pub take_constant-requires-in-66-clause-reads : goal.take_constant-requires-in-66-clause-reads
take_constant-requires-in-66-clause-reads g c =
    (c.args.reading.counted, c.args.opcode, i64_const_read c.args.reading.counted c.args.at c.args.opcode c.args.fields.now c.in-66.is)

pub returns-in-66-clause-goes : goal.returns-in-66-clause-goes
returns-in-66-clause-goes g c =
    λ c' code before front k h. c.take_constant-in-66.ensures.goes c.args.reading.counted c' c.args.opcode code before front k h (i64_const_read c.args.reading.counted c.args.at c.args.opcode c.args.fields.now c.in-66.is)

pub take_access-requires-clause-reads : goal.take_access-requires-clause-reads
take_access-requires-clause-reads g c =
    (c.args.reading.counted, c.args.opcode, c.in-Some.ensures c.args.reading.counted c.args.at c.args.fields.now)

pub returns-in-Some-clause-goes : goal.returns-in-Some-clause-goes
returns-in-Some-clause-goes g c =
    λ c' code before front k h. c.take_access.ensures.goes c.args.reading.counted c' c.args.opcode code before front k h (c.in-Some.ensures c.args.reading.counted c.args.at c.args.fields.now)

pub returns-in-Some-operation_of-clause-goes : goal.returns-in-Some-operation_of-clause-goes
returns-in-Some-operation_of-clause-goes g c =
    λ c' code before front k h. c.take_common.ensures.goes c.args.reading.counted c' c.args.reading.last c.args.opcode code before c.args.fields.now c.args.fields.now front k h (c.in-Some-operation_of.ensures c.args.reading.counted c.args.at c.args.fields.now)

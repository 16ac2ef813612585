use Rattle.table_calls.proofs.import.emit_import_stub.Goals as goal

pub returns-clause-ok : goal.returns-clause-ok
returns-clause-ok c =
    rw (c.room.ensures, c.from.ensures, c.const_32.ensures, c.from-2.ensures, c.encode_imm-ask.ensures, c.new.ensures, c.encode_ecall.ensures, c.jump_back.ensures) at c.append.ensures.ok

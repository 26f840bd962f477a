use Rattle.std.proofs.Common.{subst, IfOk}
use Rattle.ms2_top.specs.Outcomes.{IsPrinted}
use Rattle.ms2_top.proofs.Counted.{few_tokens}
use Rattle.ms2_top.proofs.Translated.{printed_outcome, is_stop_there, as_outcome}
use Rattle.ms2_top.proofs.source.translate.Goals as goal

pub feed-requires : goal.feed-requires
feed-requires c = record { short = few_tokens c.args.words.now c.args.bytes.now c.args.tokens.now c.requires.lexed c.requires.size }

pub returns-in-Ok : goal.returns-in-Ok
returns-in-Ok c = printed_outcome c.args.bytes.now c.args.words.now c.requires.table c.args.tokens.now c.requires.lexed c.in-Ok.written c.in-Ok.ensures.translated c.printed.result
    (subst (λ ts. IfOk c.printed.result (IsPrinted c.args.words.now ts)) c.as_slice.ensures c.printed.ensures)

pub returns-in-Err : goal.returns-in-Err
returns-in-Err c = as_outcome c.args.bytes.now c.in-Err.stop c.stopped.result c.stopped.ensures
    (λ other. is_stop_there c.args.bytes.now c.args.words.now c.requires.table c.args.tokens.now c.requires.lexed c.in-Err.stop other c.in-Err.ensures.stopped)

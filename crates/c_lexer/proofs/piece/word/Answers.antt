use Rattle.c_lexer.proofs.Found.{word_found}
use Rattle.c_lexer.proofs.piece.word.Goals as goal

pub returns : goal.returns
returns c d o =
    word_found d c.args.text.now (record { length = c.word_length-length.result; meaning = c.word_meaning-meaning.result }) c.requires o c.word_length-length.ensures c.word_meaning-meaning.ensures

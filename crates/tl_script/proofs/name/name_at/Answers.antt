-- The run of letters at the front is text.
use Rattle.tl_script.proofs.Letters.{IsUtf8-front}
use Rattle.tl_script.proofs.name.name_at.Goals as goal

pub text_of-requires : goal.text_of-requires
text_of-requires c = rw (c.split_at.ensures.front, c.letters_len.ensures) (IsUtf8-front c.args.bytes.now)

use Rattle.ber_tlv.proofs.ReadAgain.{tag_again}
use Rattle.ber_tlv.proofs.write.tag_bytes.Goals as goal

pub returns-then-tag-lt256-clause-read_again : goal.returns-then-tag-lt256-clause-read_again
returns-then-tag-lt256-clause-read_again c = tag_again c.args.tag.0

pub returns-then-tag-lt65536-clause-read_again : goal.returns-then-tag-lt65536-clause-read_again
returns-then-tag-lt65536-clause-read_again c = tag_again c.args.tag.0

pub returns-else-tag-lt65536-clause-read_again : goal.returns-else-tag-lt65536-clause-read_again
returns-else-tag-lt65536-clause-read_again c = tag_again c.args.tag.0

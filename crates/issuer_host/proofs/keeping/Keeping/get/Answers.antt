use Rattle.std.proofs.Common.{refl, ap, ◌∙◌}
use Rattle.std.specs.Prelude.{option_map}
use Rattle.issuer_host.specs.Books.{kept_at}
use Rattle.issuer_host.specs.Keeping.{kept_message}
use Rattle.issuer_host.proofs.Tables.{message_found, seen_copied}
use Rattle.issuer_host.proofs.keeping.Keeping.get.Goals as goal

pub returns : goal.returns
returns c =
    seen_copied c.args.key.now c.get.result ∙ ap (option_map (kept_message c.args.key.now)) c.get.ensures.value
    ∙ message_found _ c.args.key.now c.self.inside.table.entries (λ k. refl) ∙ ap (kept_at c.args.key.now) c.self.view_is

use Rattle.std.proofs.Common.{◌≡◌, [], ◌∷◌, ◌++◌, length, take, replicate, refl, sym, ◌∙◌, rules, arith}
use Rattle.std.proofs.lemmas.List.{take_all}
use Rattle.app_cryptogram.specs.Cryptograms.{ac_fields_bytes}
use Rattle.app_cryptogram.proofs.Joined.{put_behind}
use Rattle.app_cryptogram.proofs.fields.AcFields.bytes.Goals as goal

pub returns : goal.returns
unfolding ac_fields_bytes
returns c =
    let fields = c.args.self.now in
    let amount_long : length fields.amount ≡ 6 = search rules in
    let amount_put : take 6 c.put.new.bytes ≡ fields.amount = put_behind [] (replicate 33 0) c.put.new.bytes fields.amount 0 6 refl (omega arith) c.put.ensures in
    let other_long : length fields.other ≡ 6 = search rules in
    let other_put : take 12 c.put-2.new.bytes ≡ fields.amount ++ fields.other = put_behind (fields.amount) c.put.new.bytes c.put-2.new.bytes fields.other 6 12 amount_put (omega arith) c.put-2.ensures in
    let country_long : length fields.country ≡ 2 = search rules in
    let country_put : take 14 c.put-3.new.bytes ≡ fields.amount ++ fields.other ++ fields.country = put_behind (fields.amount ++ fields.other) c.put-2.new.bytes c.put-3.new.bytes fields.country 12 14 other_put (omega arith) c.put-3.ensures in
    let tvr_long : length fields.tvr ≡ 5 = search rules in
    let tvr_put : take 19 c.put-4.new.bytes ≡ fields.amount ++ fields.other ++ fields.country ++ fields.tvr = put_behind (fields.amount ++ fields.other ++ fields.country) c.put-3.new.bytes c.put-4.new.bytes fields.tvr 14 19 country_put (omega arith) c.put-4.ensures in
    let currency_long : length fields.currency ≡ 2 = search rules in
    let currency_put : take 21 c.put-5.new.bytes ≡ fields.amount ++ fields.other ++ fields.country ++ fields.tvr ++ fields.currency = put_behind (fields.amount ++ fields.other ++ fields.country ++ fields.tvr) c.put-4.new.bytes c.put-5.new.bytes fields.currency 19 21 tvr_put (omega arith) c.put-5.ensures in
    let date_long : length fields.date ≡ 3 = search rules in
    let date_put : take 24 c.put-6.new.bytes ≡ fields.amount ++ fields.other ++ fields.country ++ fields.tvr ++ fields.currency ++ fields.date = put_behind (fields.amount ++ fields.other ++ fields.country ++ fields.tvr ++ fields.currency) c.put-5.new.bytes c.put-6.new.bytes fields.date 21 24 currency_put (omega arith) c.put-6.ensures in
    let trade_put : take 25 c.put-7.new.bytes ≡ fields.amount ++ fields.other ++ fields.country ++ fields.tvr ++ fields.currency ++ fields.date ++ (fields.trade ∷ []) = put_behind (fields.amount ++ fields.other ++ fields.country ++ fields.tvr ++ fields.currency ++ fields.date) c.put-6.new.bytes c.put-7.new.bytes (fields.trade ∷ []) 24 25 date_put (omega arith) c.put-7.ensures in
    let number_long : length fields.number ≡ 4 = search rules in
    let number_put : take 29 c.put-8.new.bytes ≡ fields.amount ++ fields.other ++ fields.country ++ fields.tvr ++ fields.currency ++ fields.date ++ (fields.trade ∷ []) ++ fields.number = put_behind (fields.amount ++ fields.other ++ fields.country ++ fields.tvr ++ fields.currency ++ fields.date ++ (fields.trade ∷ [])) c.put-7.new.bytes c.put-8.new.bytes fields.number 25 29 trade_put (omega arith) c.put-8.ensures in
    let aip_long : length fields.aip ≡ 2 = search rules in
    let aip_put : take 31 c.put-9.new.bytes ≡ fields.amount ++ fields.other ++ fields.country ++ fields.tvr ++ fields.currency ++ fields.date ++ (fields.trade ∷ []) ++ fields.number ++ fields.aip = put_behind (fields.amount ++ fields.other ++ fields.country ++ fields.tvr ++ fields.currency ++ fields.date ++ (fields.trade ∷ []) ++ fields.number) c.put-8.new.bytes c.put-9.new.bytes fields.aip 29 31 number_put (omega arith) c.put-9.ensures in
    let counter_long : length fields.counter ≡ 2 = search rules in
    let counter_put : take 33 c.put-10.new.bytes ≡ fields.amount ++ fields.other ++ fields.country ++ fields.tvr ++ fields.currency ++ fields.date ++ (fields.trade ∷ []) ++ fields.number ++ fields.aip ++ fields.counter = put_behind (fields.amount ++ fields.other ++ fields.country ++ fields.tvr ++ fields.currency ++ fields.date ++ (fields.trade ∷ []) ++ fields.number ++ fields.aip) c.put-9.new.bytes c.put-10.new.bytes fields.counter 31 33 aip_put (omega arith) c.put-10.ensures in
    let whole : length c.put-10.new.bytes ≡ 33 = search rules in
    sym (take_all 33 c.put-10.new.bytes (omega arith)) ∙ counter_put

-- The number of each kind of row, and when its figures lie within their limits.
use Rattle.std.specs.Prelude.{ℕ, Bool, nat_le}
use Rattle.table_tests.specs.declared.meter.Meter.{Meter}
use Rattle.table_tests.specs.declared.station.Station.{Station}

abbrev pub meter_number : Meter → ℕ
meter_number m = m.number

abbrev pub meter_sound : Meter → Bool
meter_sound m = nat_le m.reading 9999

abbrev pub station_number : Station → ℕ
station_number s = s.code

abbrev pub station_sound : Station → Bool
station_sound s = nat_le s.load s.most

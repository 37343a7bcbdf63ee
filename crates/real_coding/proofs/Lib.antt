mod Coded
